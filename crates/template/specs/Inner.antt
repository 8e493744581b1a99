pub mod Sorted
pub mod Within
