pub mod Dispatch
pub mod Known
pub mod Sound
