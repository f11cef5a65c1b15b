pub mod Summed
pub mod Answers
pub mod Serving
