pub mod Shortness
pub mod Counts
pub mod Steps
