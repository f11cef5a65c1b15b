pub mod FaultNames
pub mod Meeting
