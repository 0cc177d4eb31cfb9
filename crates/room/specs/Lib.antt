pub mod Room
pub mod Placing
pub mod Ending
pub mod Blank
