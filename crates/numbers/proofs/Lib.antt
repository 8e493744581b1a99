pub mod Tests
pub mod Machine
pub mod Rounding
pub mod Millionths
pub mod Laws
