pub mod Shapes
pub mod Unique
