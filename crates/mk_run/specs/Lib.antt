pub mod Below
pub mod Headline
pub mod Joining
pub mod Keeping
pub mod Running
