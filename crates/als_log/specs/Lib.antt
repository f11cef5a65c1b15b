pub mod FaultNames
pub mod History
pub mod Local
pub mod Near
pub mod Held
pub mod Outcomes
pub mod Reading
pub mod Texts
