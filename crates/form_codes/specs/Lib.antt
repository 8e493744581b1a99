pub mod Row
pub mod Argument
pub mod Line
pub mod Piece
