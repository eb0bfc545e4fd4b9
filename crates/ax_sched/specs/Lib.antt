pub mod Plan
pub mod Mix
pub mod Events
pub mod Policy
pub mod Lines
pub mod Schedule
pub mod Reading
