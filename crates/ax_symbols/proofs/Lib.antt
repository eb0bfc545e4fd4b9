pub mod SymbolLemmas
pub mod SameSign
pub mod Passing
pub mod Closing
pub mod Exact
pub mod Commas
