-- What private functions mean to each other; no public contract speaks of it.
pub mod Sweeping
pub mod InTime
pub mod Taking
pub mod Ranks
pub mod Saying
pub mod LineFields
pub mod LedSteps
