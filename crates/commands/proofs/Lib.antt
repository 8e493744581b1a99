pub mod Sets
pub mod Copying
pub mod Tests
pub mod Tabling
