pub mod Edges
pub mod Graphs
pub mod Groups
pub mod Lists
pub mod Steps
pub mod WrongParts
