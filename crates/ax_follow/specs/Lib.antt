pub mod Bounds
pub mod Contract
pub mod RunTheorem
