mod Deepened
pub mod Written
pub mod Agree
pub mod Unique
