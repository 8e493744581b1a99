pub mod Replacing
pub mod Slots
pub mod Edits
