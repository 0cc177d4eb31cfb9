pub mod Uses
pub mod Filling
pub mod Orders
pub mod Loads
