pub mod Upto
pub mod Steps
