pub mod Slots
pub mod Standing
pub mod Leasing
pub mod Runs
pub mod Asking
