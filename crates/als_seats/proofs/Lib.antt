pub mod Asks
pub mod Outcomes
