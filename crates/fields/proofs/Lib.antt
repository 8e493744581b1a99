pub mod DigitLaws
pub mod FieldLaws
