pub mod Near
pub mod Edges
