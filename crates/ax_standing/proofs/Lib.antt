pub mod Orders
pub mod Owned
pub mod Moved
pub mod Walked
