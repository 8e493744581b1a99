pub mod Named
pub mod Filtered
pub mod Parameter
pub mod CellArgument
pub mod Variable
