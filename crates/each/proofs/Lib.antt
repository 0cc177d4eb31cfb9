pub mod Uses
pub mod Unique
