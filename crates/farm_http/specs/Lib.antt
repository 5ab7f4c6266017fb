pub mod Fields
pub mod Fronts
pub mod Request
pub mod Heads
pub mod Requests
pub mod Turns
pub mod Room
pub mod Faults
