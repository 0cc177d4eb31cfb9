mod First
mod Whole
mod ReadBack
pub mod Unique
pub mod Demands
