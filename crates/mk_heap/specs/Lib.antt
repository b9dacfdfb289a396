pub mod Below
pub mod Dispatching
pub mod Ending
pub mod Hosts
pub mod Unswept
