pub mod Going
pub mod Placing
pub mod Doing
pub mod Doubts
pub mod Truths
pub mod Rounds
pub mod Confirms
pub mod Excuses
pub mod Commits
mod Rows
pub mod Failing
pub mod Owing
