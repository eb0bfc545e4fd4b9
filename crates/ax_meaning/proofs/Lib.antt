pub mod Globals
pub mod Meant
pub mod Knowing
pub mod Agreeing
