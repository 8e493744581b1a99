pub mod Giving
pub mod Ranges
pub mod Allowed
pub mod Following
pub mod Remembering
pub mod Commanding
pub mod Forms
