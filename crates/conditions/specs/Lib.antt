pub mod Assigns
pub mod Pairs
pub mod Printed
