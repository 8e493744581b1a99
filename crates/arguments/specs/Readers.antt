pub mod Literal
pub mod Index
pub mod Operand
pub mod Argument
