pub mod Using
pub mod Gotos
pub mod Edges
pub mod Ends
pub mod Lines
pub mod Leaving
pub mod Unique
