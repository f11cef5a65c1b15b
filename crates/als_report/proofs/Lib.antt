mod WorkedHealth
mod WorkedFollowers
pub mod AnswerLaws
pub mod TextLaws
