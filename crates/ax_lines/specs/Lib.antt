pub mod Productions
pub mod Lines
pub mod Stops
pub mod Stated
pub mod Faults
