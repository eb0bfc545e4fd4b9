pub mod NewestStores
pub mod Starts
mod Stores
pub mod Writes
