pub mod Rows
pub mod Tests
pub mod Spans
pub mod Forming
