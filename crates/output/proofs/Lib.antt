pub mod Bytes
pub mod Fields
pub mod Values
pub mod Saying
pub mod Lines
pub mod Reports
