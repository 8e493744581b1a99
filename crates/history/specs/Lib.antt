pub mod LentStore
pub mod Change
pub mod History
pub mod Rows
