pub mod Signed
pub mod Trees
pub mod Nodes
pub mod Naming
pub mod Unique
