pub mod FaultNames
pub mod Open
pub mod Noted
pub mod Kept
