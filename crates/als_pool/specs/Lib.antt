pub mod FaultNames
pub mod Queues
pub mod Pooled
pub mod Bounds
pub mod Outcomes
pub mod Images
pub mod Refusals
pub mod Restart
