mod Choosing
mod Members
mod Seats
mod Tallies
