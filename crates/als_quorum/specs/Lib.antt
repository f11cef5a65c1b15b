pub mod Names
pub mod Enough
pub mod Rows
pub mod Tallies
