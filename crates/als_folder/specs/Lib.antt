pub mod FaultNames
pub mod Layouts
pub mod Lengths
pub mod Parts
pub mod Roles
pub mod Troubles
