pub mod FaultNames
pub mod Judged
pub mod Scanned
pub mod Texts
pub mod Wanted
