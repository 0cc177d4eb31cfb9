mod Writing
mod Lines
mod Loading
mod Assigning
mod Searching
mod Setting
mod Printing
pub mod Unique
