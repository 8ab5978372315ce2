pub mod Whole
pub mod Round
pub mod TakingFacts
pub mod ReadFacts
pub mod FieldFacts
pub mod WriteFacts
pub mod Numerals
