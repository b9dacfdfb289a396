pub mod Cells
pub mod KnownPages
pub mod PageSets
