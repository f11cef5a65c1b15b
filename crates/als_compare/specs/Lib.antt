pub mod Summaries
pub mod Verdicts
pub mod Ranks
pub mod Ids
pub mod Frames
pub mod Reading
