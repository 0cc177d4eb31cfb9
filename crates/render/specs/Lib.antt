pub mod Gens
pub mod Told
pub mod Forms
