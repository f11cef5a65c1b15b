pub mod Committing
pub mod Counting
pub mod Fronts
pub mod Packing
pub mod Left
pub mod Sharing
pub mod Waiting
