pub mod Along
pub mod Moves
pub mod SpanLaws
pub mod Unique
