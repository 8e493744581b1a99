pub mod Plain
pub mod CellField
