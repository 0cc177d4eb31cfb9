pub mod Ranges
pub mod Tables
pub mod Placed
mod Laying
pub mod Chaining
pub mod Unique
