pub mod Below
pub mod Sweeps
