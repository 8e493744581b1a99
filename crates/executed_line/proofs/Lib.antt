pub mod Places
pub mod Performing
pub mod Sounds
pub mod Lining
pub mod Ranges
pub mod Allowed
pub mod Counting
