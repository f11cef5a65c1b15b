pub mod Keeping
pub mod Checkpoints
pub mod Refusing
pub mod Takeovers
pub mod Decisions
