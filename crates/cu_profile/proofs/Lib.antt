pub mod FaultRows
pub mod KeptProfiles
pub mod RowFacts
pub mod TextFacts
pub mod WritingFacts
pub mod AgainFacts
