pub mod Entries
pub mod Rows
pub mod Images
pub mod Listed
