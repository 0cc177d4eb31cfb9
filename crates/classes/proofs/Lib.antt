pub mod Members
pub mod Tied
pub mod Phis
pub mod Whole
pub mod Turns
pub mod Theorems
pub mod Unique
