pub mod Laws
pub mod Views
pub mod Unique
