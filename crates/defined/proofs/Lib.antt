pub mod Ranges
pub mod Values
pub mod Tested
pub mod Defining
pub mod Statements
pub mod Unique
