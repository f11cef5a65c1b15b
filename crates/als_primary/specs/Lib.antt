pub mod Doubts
pub mod Fates
pub mod Guards
pub mod Others
pub mod Ranges
pub mod Telling
