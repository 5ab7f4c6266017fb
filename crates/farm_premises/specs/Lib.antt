pub mod Keepers
pub mod Desks
