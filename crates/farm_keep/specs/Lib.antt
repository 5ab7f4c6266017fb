pub mod Faults
pub mod First
pub mod Found
pub mod Headline
pub mod KeeperState
pub mod Lives
pub mod Restarts
