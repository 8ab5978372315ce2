pub mod Functions
pub mod Settling
pub mod Steps
pub mod Triangles
