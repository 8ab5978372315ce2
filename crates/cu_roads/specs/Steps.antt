pub mod TableRows
pub mod DrawnRoads
