pub mod Marks
pub mod Negating
pub mod Unique
