-- What private functions mean to each other; no public contract speaks of it.
pub mod Ready
pub mod Made
pub mod Sweeping
pub mod Ahead
pub mod Driving
