pub mod Agreed
pub mod Defs
pub mod Ran
pub mod Before
