pub mod Fetching
pub mod Selecting
pub mod State
pub mod Line
pub mod Rows
pub mod Inner
