pub mod Going
pub mod Moved
pub mod Lists
pub mod Updates
pub mod Committing
pub mod Rolling
pub mod Fitting
pub mod Stepping
pub mod Others
pub mod Beside
pub mod Fronts
pub mod Rooms
pub mod Ahead
pub mod Owed
pub mod LastWrites
pub mod Preparing
pub mod Doubting
pub mod Before
mod Behind
pub mod Spelt
mod Worked
