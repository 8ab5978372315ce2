-- What private functions mean to each other; no public contract speaks of it.
pub mod Turns
pub mod Planning
pub mod Forgetting
