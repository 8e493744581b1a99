pub mod Pass
pub mod Stars
pub mod Listing
pub mod Paging
pub mod Packed
