pub mod EditLines
pub mod Steps
