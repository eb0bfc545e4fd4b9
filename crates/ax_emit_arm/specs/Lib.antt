pub mod Slots
pub mod Code
pub mod Laws
pub mod Emitters
