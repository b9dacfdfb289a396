pub mod Enabling
pub mod Admitting
pub mod TurnFacts
pub mod MarkerFacts
pub mod CallFacts
pub mod Globals
pub mod Sameness
pub mod Beginnings
pub mod Between
pub mod Loading
mod NumberTurns
mod Owned
pub mod OwnedCalls
