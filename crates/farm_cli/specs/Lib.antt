pub mod App
pub mod Orders
pub mod Faults
