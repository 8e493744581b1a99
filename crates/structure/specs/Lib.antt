pub mod Matching
pub mod Sections
pub mod Order
