pub mod NumberLaws
mod Worked
