pub mod Markers
pub mod Steps
