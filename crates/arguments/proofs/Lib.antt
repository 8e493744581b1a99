pub mod SignLaws
pub mod ScaleLaws
pub mod NameLaws
pub mod Bounds
pub mod Parsed
pub mod CellLaws
pub mod VariableLaws
