pub mod Again
pub mod FaultNames
pub mod Node
pub mod Outcomes
pub mod Reading
pub mod Refusing
pub mod Taken
pub mod Taking
