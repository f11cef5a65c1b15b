pub mod FaultNames
pub mod Block
pub mod Page
pub mod Changes
