pub mod Shown
pub mod Text
pub mod Inner
pub mod Heading
pub mod Page
pub mod Rows
