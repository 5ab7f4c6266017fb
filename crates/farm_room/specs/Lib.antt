pub mod Came
pub mod Waiting
