pub mod Functions
pub mod Places
pub mod RegisterLemmas
pub mod Storages
pub mod Readied
pub mod Made
