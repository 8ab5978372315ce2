-- What a view stands for.
pub mod Adopted
pub mod Views
pub mod ViewedRoads
pub mod ViewedEdges
pub mod ViewedParts
