pub mod Tables
pub mod Filled
pub mod Stages
