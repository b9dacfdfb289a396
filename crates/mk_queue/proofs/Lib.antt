pub mod Invariant
pub mod Staying
pub mod Changing
pub mod Moving
pub mod Kept
pub mod Fitting
