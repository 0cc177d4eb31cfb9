pub mod Defined
pub mod Statements
