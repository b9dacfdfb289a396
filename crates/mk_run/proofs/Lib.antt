pub mod Below
mod JoinedScripts
mod LaterLists
mod ReadyScripts
pub mod MarkersBeside
mod ScriptCalls
mod WholeRuns
pub mod Headline
pub mod ObservedRuns
pub mod KeptScripts
pub mod SaidRuns
pub mod SweptRuns
pub mod Vocabulary
pub mod AtOnceOrLater
