mod Keeping
mod Lookups
mod Nearness
mod Padding
mod Pieces
mod Rows
mod Walks
