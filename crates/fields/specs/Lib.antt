pub mod Digits
pub mod Field
pub mod Inner
pub mod Rows
