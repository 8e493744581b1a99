pub mod Taking
pub mod Assigning
pub mod Kinds
pub mod Judging
pub mod Open
