pub mod Going
pub mod Remembering
pub mod Arms
pub mod Held
pub mod Sound
pub mod Executing
pub mod Forms
