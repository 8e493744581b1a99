pub mod EndLaws
pub mod DispatchLaws
pub mod SetLaws
pub mod KnownLaws
pub mod Makes
pub mod SectionLaws
pub mod Accepted
pub mod WordLetters
