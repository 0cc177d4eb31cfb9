pub mod Visits
pub mod Named
pub mod Nodes
pub mod Live
pub mod LastReader
pub mod Phis
pub mod ReadAtAll
pub mod Unique
