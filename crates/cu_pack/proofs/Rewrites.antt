-- Files after an edit.
pub mod Replaced
pub mod Rewritten
pub mod Edited
pub mod OtherBounds
pub mod EditedLists
