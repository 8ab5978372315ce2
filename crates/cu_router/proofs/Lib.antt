mod RoadsStay
mod DayLaws
mod HeldLaws
mod WorkingLaws
mod RoomLaws
mod RouteLaws
mod ArrivalLaws
mod DepartureLaws
mod TableLaws
pub mod HeldAnswers
pub mod SequencesStay
pub mod ListsLaws
