pub mod AnsweringLaws
pub mod BodyLaws
pub mod SameLaws
pub mod TakingLaws
pub mod TextLaws
mod Worked
