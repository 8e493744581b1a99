pub mod FieldLaws
pub mod PieceLaws
pub mod TextLaws
pub mod PlainLaws
pub mod CellFieldLaws
