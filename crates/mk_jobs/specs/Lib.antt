pub mod Jobs
pub mod Joining
pub mod Keeping
pub mod Laws
pub mod Passes
pub mod Runs
pub mod Typing
