pub mod Failing
pub mod OneFrame
pub mod Putting
pub mod Recalling
mod WorkedFrames
