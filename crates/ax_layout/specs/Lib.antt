pub mod Classes
pub mod Layout
pub mod LayoutState
pub mod Regions
