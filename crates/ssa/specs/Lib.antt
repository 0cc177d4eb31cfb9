pub mod Block
pub mod Node
pub mod View
