-- What private functions mean to each other; no public contract speaks of it.
pub mod Adding
pub mod Bounds
pub mod Climbing
pub mod Found
pub mod Frames
pub mod Holding
pub mod Known
pub mod Moving
pub mod Packed
pub mod Parts
pub mod Settled
pub mod SettlerStates
pub mod Spreading
pub mod Taking
pub mod Triangles
pub mod TurningPlain
