pub mod Edit
pub mod Inner
pub mod Rows
