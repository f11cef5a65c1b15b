pub mod Visits
pub mod History
pub mod Lines
pub mod Growing
pub mod Faults
