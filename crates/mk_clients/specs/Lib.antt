pub mod Clients
pub mod Owned
