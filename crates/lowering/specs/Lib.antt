pub mod Lowered
pub mod Commas
