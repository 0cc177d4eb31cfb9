mod Returns
pub mod AtStatement
mod OneReader
mod Telling
mod Adding
pub mod Forgetting
pub mod Rising
pub mod Apart
pub mod Unique
