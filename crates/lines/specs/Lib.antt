pub mod Readers
pub mod Inner
pub mod Rows
