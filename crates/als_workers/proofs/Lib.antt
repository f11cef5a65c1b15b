pub mod Totals
pub mod Moves
pub mod Tallies
pub mod Workings
pub mod Dispatches
