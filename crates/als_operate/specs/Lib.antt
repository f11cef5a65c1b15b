pub mod FaultNames
pub mod NearlyFull
pub mod Upkeep
pub mod Following
pub mod Building
pub mod Deciding
pub mod TakingOver
pub mod Replies
