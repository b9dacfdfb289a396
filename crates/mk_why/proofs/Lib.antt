pub mod Below
pub mod Vocabulary
mod Counts
mod EvaluatedChains
mod Explored
mod LazyTables
mod Lists
mod Looks
mod MadeEntries
mod Pointed
mod Scans
mod Searches
mod SweptChains
mod Telling
