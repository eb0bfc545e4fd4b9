pub mod Short
pub mod Sound
