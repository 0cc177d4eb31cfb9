mod Fitting
pub mod Emptying
pub mod Fronts
mod Staging
mod Blanks
mod Lending
mod Filling
pub mod Handed
pub mod Unique
