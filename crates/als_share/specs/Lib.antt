pub mod Reaching
pub mod Undoing
pub mod Ledgers
