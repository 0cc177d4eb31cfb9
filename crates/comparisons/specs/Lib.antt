pub mod Looks
pub mod Signs
