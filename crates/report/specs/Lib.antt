pub mod Report
pub mod Inner
pub mod Reported
pub mod Rows
