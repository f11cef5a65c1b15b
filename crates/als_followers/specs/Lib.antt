pub mod Serving
pub mod Rounds
