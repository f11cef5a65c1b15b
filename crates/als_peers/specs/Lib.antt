pub mod FaultNames
pub mod Keeping
