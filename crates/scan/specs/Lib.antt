pub mod Value
pub mod Ascii
pub mod Run
pub mod Line
pub mod Readers
pub mod Words
pub mod Inner
