pub mod FaultNames
pub mod Frames
pub mod Outcomes
pub mod Images
pub mod Kept
pub mod Table
pub mod Zones
pub mod Leases
