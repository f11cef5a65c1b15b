pub mod PageLaws
pub mod RowSteps
pub mod FieldLaws
pub mod BodyLaws
pub mod RowLaws
pub mod RecordLaws
pub mod ReadingLaws
mod Worked
mod WorkedLogs
mod WorkedCauses
mod WorkedTails
mod WorkedDoubts
pub mod Records
pub mod Survivors
pub mod Numbers
pub mod Unended
pub mod TableSteps
pub mod TableRows
pub mod Images
pub mod KeptImages
pub mod Validity
pub mod TailSteps
pub mod HeaderLaws
pub mod LogLaws
pub mod Standing
pub mod Sound
pub mod Takeover
pub mod TailLength
pub mod Reserve
pub mod TailBound
pub mod Decisions
pub mod Places
pub mod Held
pub mod HeldCounts
pub mod Falling
pub mod Sweep
pub mod CommitSteps
pub mod Chain
pub mod ChainReads
pub mod TailFirst
pub mod SeenCommits
pub mod PageImages
