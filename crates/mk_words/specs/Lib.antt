pub mod Below
pub mod Laws
pub mod PageMaps
pub mod Rule
pub mod States
pub mod Steps
pub mod Sweeping
pub mod TurnSteps
