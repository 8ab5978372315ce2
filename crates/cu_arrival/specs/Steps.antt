-- What private functions mean to each other; no public contract speaks of it.
pub mod Stretches
pub mod TwoRules
pub mod OfPieces
pub mod Packing
