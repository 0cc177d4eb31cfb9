pub mod Parts
pub mod Letters
pub mod Printing
pub mod Nodes
pub mod Marks
pub mod Settings
pub mod Unique
