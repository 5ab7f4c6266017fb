pub mod Faults
pub mod InFiles
pub mod Preflight
pub mod Lines
pub mod NewFile
pub mod Orders
pub mod Program
