pub mod Admitted
pub mod Laws
pub mod NeverHeap
pub mod Types
