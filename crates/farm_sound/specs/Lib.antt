pub mod Keys
pub mod ByRows
pub mod Served
