pub mod Sorted
pub mod Remaining
pub mod Standing
pub mod Whole
pub mod Unique
