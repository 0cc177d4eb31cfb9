pub mod Deeper
