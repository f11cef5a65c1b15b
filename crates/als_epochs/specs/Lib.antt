pub mod FaultNames
pub mod Histories
pub mod HistoryLaws
pub mod Inverse
pub mod Judging
pub mod Kept
