pub mod Counting
pub mod Copies
pub mod Fronts
