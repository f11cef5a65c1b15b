pub mod Outcomes
pub mod Telling
pub mod Waiting
