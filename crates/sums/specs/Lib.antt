pub mod Ground
pub mod Address
