pub mod Image
pub mod Entries
pub mod Lowering
