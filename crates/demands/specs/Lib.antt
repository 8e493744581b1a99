pub mod Calls
pub mod Sheet
pub mod Due
pub mod Matching
pub mod Shown
pub mod Ending
