pub mod Reads
pub mod Accounts
pub mod Sent
pub mod Meeting
pub mod Going
pub mod Stepping
pub mod Session
