pub mod Spans
pub mod Windows
pub mod Downs
pub mod Rooms
pub mod Steps
