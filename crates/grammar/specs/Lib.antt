pub mod Number
pub mod Argument
pub mod Text
pub mod Line
