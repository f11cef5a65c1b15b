pub mod States
pub mod Health
pub mod Reading
pub mod Followers
pub mod Texts
