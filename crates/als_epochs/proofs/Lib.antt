pub mod HistorySteps
pub mod JudgingLaws
pub mod SealBytes
mod WorkedHistories
