mod Texts
mod Taken
mod Readings
mod Filled
