pub mod Tabled
pub mod Near
