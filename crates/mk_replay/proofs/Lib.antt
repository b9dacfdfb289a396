pub mod Vocabulary
pub mod ServedMore
pub mod RunLaws
pub mod UnderWay
pub mod AskedCalls
pub mod AdmittedSchedules
pub mod FormsInTurn
mod ListedForms
mod Parts
pub mod Pieces
mod ScheduleLine
mod ScriptPart
