mod Refusing
mod Rereading
mod Clearing
mod Handing
mod Writing
mod Whole
pub mod Unique
