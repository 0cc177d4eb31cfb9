pub mod Inside
pub mod Nodes
pub mod Views
pub mod Marked
