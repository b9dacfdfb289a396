pub mod Below
pub mod Chains
pub mod LazyTables
pub mod Searching
pub mod Stops
