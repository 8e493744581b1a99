pub mod Reading
pub mod Behind
pub mod Set
pub mod Compare
pub mod Simple
pub mod Fetch
pub mod Title
pub mod Command
