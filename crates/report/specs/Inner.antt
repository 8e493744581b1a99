pub mod Start
pub mod Begun
pub mod Stretch
