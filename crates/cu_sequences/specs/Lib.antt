pub mod Sequences
pub mod Kept
pub mod Steps
