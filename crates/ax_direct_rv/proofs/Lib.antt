pub mod Words
pub mod Sites
pub mod Expanding
