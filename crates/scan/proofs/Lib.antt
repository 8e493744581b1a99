pub mod RunLaws
pub mod DigitLaws
pub mod TestLaws
pub mod WordLaws
pub mod NumberLaws
pub mod LetterLaws
