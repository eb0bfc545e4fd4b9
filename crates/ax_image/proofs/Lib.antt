pub mod Entries
pub mod Entering
pub mod Made
pub mod First
pub mod Usable
pub mod Words
pub mod Asking
pub mod Lowered
