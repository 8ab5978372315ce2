-- What private functions mean to each other; no public contract speaks of it.
pub mod Putting
