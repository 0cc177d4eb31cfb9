pub mod Parts
pub mod Keys
