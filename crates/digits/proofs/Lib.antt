pub mod Numerals
pub mod Texts
