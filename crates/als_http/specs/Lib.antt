pub mod Asking
pub mod Hosts
pub mod Telling
pub mod Replies
pub mod Leaving
pub mod Waiting
