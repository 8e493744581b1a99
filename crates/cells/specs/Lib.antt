pub mod Bytes
pub mod Cell
pub mod Store
pub mod Asking
pub mod Inner
pub mod Rows
