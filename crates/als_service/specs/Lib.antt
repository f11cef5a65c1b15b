pub mod Pauses
pub mod Losses
pub mod Endings
pub mod Sessions
pub mod Met
pub mod Inquiries
pub mod Patience
pub mod Leading
