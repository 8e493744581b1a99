pub mod Index
pub mod Tests
pub mod Request
