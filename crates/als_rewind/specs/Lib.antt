pub mod Fronts
pub mod FaultNames
pub mod Losses
