pub mod Twice
pub mod RegistersNamed
pub mod Apart
pub mod Opening
pub mod Unique
