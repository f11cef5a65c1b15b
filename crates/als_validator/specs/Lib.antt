pub mod Causing
pub mod FaultNames
pub mod Keys
pub mod KeysNow
pub mod Lists
pub mod Seen
pub mod Tests
pub mod Validated
