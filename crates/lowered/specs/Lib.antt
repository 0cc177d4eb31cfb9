pub mod Lowered
pub mod Passed
pub mod Emptied
