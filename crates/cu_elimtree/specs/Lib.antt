pub mod Trees
pub mod SweepArcs
