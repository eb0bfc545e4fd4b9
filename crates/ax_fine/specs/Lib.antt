pub mod Fine
pub mod OnBytes
pub mod Near
