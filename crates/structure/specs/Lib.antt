pub mod Answers
pub mod Runs
pub mod Sheets
pub mod Lowered
