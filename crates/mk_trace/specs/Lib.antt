pub mod Calls
pub mod Grammar
pub mod Ledgers
pub mod Lines
pub mod Peaks
pub mod Playing
