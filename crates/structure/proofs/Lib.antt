pub mod Matches
pub mod Names
pub mod Order
