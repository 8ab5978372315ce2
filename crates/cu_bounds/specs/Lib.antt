pub mod KeptBounds
pub mod Steps
pub mod Near
