pub mod Pairs
pub mod Rule
pub mod Passes
pub mod Offers
pub mod Tallies
pub mod Worked
pub mod Dispatching
