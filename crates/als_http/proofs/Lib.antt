mod WorkedPaths
mod WorkedHosts
pub mod ReplyLaws
pub mod AskingLaws
pub mod WaitingLaws
