pub mod Mapped
pub mod RunLaws
pub mod StretchLaws
pub mod Built
pub mod ComposeLaws
pub mod MinimumLaws
pub mod PieceLaws
pub mod Slacks
