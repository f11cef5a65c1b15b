mod Limits
pub mod Visiting
pub mod Gets
