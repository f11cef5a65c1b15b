pub mod Bodies
pub mod Entering
pub mod Taking
pub mod Deciding
pub mod Telling
pub mod Answering
pub mod Withholding
