pub mod Pushing
pub mod Taking
pub mod Setting
pub mod Slots
pub mod Whole
pub mod Unique
