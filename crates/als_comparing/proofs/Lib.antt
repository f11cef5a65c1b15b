pub mod Summed
pub mod Behind
