pub mod NumberLaws
pub mod Lists
mod Worked
