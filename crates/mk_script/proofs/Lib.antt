pub mod CanonicalLines
pub mod ClosedBlocks
pub mod PrintedForms
pub mod Layouts
pub mod LineWords
pub mod PassedLines
pub mod PrintedNumbers
pub mod RoundTrip
pub mod Said
pub mod Spacing
mod Blocks
mod Converted
mod Digits
mod Ends
mod FirstPlace
mod KeywordLengths
mod LastPiece
mod NamesSoFar
mod NoForm
mod PaddedNames
mod Placed
pub mod Pushed
mod PutName
mod Reading
mod ScopeAfter
pub mod Vocabulary
mod FirstAndOperands
mod FirstLine
mod WordsOfFirst
