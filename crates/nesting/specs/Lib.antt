pub mod Nest
pub mod Inner
