pub mod CheckLaws
mod Ends
mod Sound
mod Walking
