pub mod Settling
pub mod Inner
pub mod Setting
pub mod Testing
pub mod Looping
