pub mod Addresses
pub mod Laws
pub mod PageUses
pub mod Storages
