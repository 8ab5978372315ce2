-- Lists of numbers, and where each of them stands.
pub mod Totals
pub mod Slices
pub mod Numbers
pub mod Runs
pub mod Unrefuted
pub mod Columns
pub mod Items
pub mod ListNumbers
pub mod Cursors
pub mod Copied
pub mod Stretches
pub mod CountedStarts
pub mod PairedLists
