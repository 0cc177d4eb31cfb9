pub mod Bytes
pub mod Editions
pub mod Kinds
pub mod Options
