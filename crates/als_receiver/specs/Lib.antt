pub mod Reception
pub mod History
