pub mod Prefix
pub mod Printed
