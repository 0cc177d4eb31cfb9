pub mod Closing
pub mod Agreeing
pub mod Running
pub mod Stepping
pub mod Walking
pub mod Unique
