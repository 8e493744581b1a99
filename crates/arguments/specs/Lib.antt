pub mod Admitted
pub mod readers
pub mod inner
pub mod Rows
