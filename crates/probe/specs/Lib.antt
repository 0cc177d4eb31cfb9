pub mod Counted
pub mod Chosen
pub mod Numbered
