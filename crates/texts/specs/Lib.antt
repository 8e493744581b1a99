pub mod Width
pub mod Readers
pub mod Pieces
pub mod Rows
pub mod Inner
