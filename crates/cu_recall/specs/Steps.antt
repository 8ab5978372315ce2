-- What private functions mean to each other; no public contract speaks of it.
pub mod Drives
pub mod Looks
pub mod InWork
pub mod Walks
