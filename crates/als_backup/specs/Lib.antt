pub mod FaultNames
pub mod Texts
pub mod Fresh
pub mod Filled
pub mod Told
