-- What a file says, read where it lies.
pub mod PieceLaws
pub mod ReadBack
pub mod Standing
pub mod Laid
pub mod WayRows
pub mod EdgeLists
pub mod Driven
pub mod GraphRead
pub mod EdgesRead
pub mod WayEntries
pub mod FirstList
pub mod Parted
pub mod Bodies
pub mod InForce
pub mod FirstBound
pub mod HalfEdges
