pub mod Trees
pub mod Filling
pub mod Orders
pub mod Loading
pub mod Forest
pub mod Unique
