pub mod Memories
pub mod Narrow
pub mod NewestStores
pub mod PendingState
pub mod Shapes
pub mod Values
