-- What private functions mean to each other; no public contract speaks of it.
pub mod Choosing
pub mod Best
pub mod Kept
pub mod Gathering
pub mod Building
pub mod Triangles
