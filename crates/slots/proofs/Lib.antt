pub mod Bits
pub mod Taking
pub mod Alone
pub mod Unique
