pub mod PackedRuns
pub mod Layers
pub mod Least
pub mod Windows
pub mod Travels
pub mod Steps
