pub mod Ahead
pub mod World
pub mod Small
pub mod Acts
pub mod Events
