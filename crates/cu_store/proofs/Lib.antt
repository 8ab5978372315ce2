pub mod RowLaws
pub mod KnowsLaws
