-- What private functions mean to each other; no public contract speaks of it.
pub mod Holding
pub mod Rebuilt
pub mod Rooms
pub mod Departing
pub mod Asking
pub mod Edits
