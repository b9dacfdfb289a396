pub mod NullCalls
pub mod JoinedHosts
pub mod HeldObjects
pub mod LateMarkers
pub mod NewTurns
pub mod Vocabulary
