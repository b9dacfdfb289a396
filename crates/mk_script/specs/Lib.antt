pub mod Canonical
pub mod Fields
pub mod Grammar
pub mod Keywords
pub mod Lines
pub mod Operands
pub mod Scopes
