pub mod LinePieceLaws
pub mod LineLaws
