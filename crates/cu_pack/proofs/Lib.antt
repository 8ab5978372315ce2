pub mod Numbering
pub mod Read
pub mod Spelled
pub mod Viewed
pub mod Writing
pub mod Rewrites
pub mod FileExamples
