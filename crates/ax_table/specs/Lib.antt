pub mod MarkText
pub mod MapText
