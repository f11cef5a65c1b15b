pub mod Going
pub mod Admitting
pub mod Frames
pub mod Whole
pub mod Recording
pub mod Hearing
