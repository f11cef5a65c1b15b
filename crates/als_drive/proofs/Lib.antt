pub mod Redoing
pub mod Readied
