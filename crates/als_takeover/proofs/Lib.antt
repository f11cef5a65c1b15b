mod Turns
pub mod Looks
pub mod Next
pub mod Walks
