pub mod Promises
pub mod Releases
pub mod Theorems
pub mod Waiting
pub mod WordLaws
