pub mod Lease
pub mod Work
pub mod Numbers
pub mod Queue
