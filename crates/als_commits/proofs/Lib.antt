pub mod CommitFronts
pub mod Counting
pub mod Packing
pub mod Queue
pub mod Rising
