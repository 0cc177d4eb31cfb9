pub mod Keys
pub mod Laid
