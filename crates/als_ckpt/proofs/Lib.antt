pub mod AgainLaws
pub mod BlockLaws
pub mod DeviceLaws
pub mod HeldLaws
pub mod KeepingLaws
pub mod KeptLaws
pub mod PartLaws
pub mod RegionLaws
pub mod StateLaws
mod WorkedBlocks
mod WorkedRegions
