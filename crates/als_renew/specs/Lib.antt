pub mod FaultNames
pub mod Pages
pub mod Refusals
pub mod Renewed
pub mod Beginning
pub mod Carried
pub mod Closing
