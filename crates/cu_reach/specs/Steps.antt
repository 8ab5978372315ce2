-- What private functions mean to each other; no public contract speaks of it.
pub mod Searching
pub mod LineFields
pub mod Parts
pub mod TableFields
pub mod Gathering
pub mod Aiming
