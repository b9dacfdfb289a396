pub mod Commands
pub mod Generated
pub mod Given
pub mod Laws
pub mod Outputs
pub mod RunOutputs
pub mod Statuses
pub mod Told
