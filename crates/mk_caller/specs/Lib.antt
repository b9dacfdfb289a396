pub mod Below
pub mod Called
pub mod Moves
pub mod States
