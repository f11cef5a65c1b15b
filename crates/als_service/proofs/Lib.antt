pub mod Chains
pub mod Endings
pub mod Vouched
pub mod ReadLaws
pub mod Parting
