pub mod MostLaws
pub mod WalkRoads
pub mod Halves
pub mod MostSoFar
pub mod Turns
pub mod Recounting
