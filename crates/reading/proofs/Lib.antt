pub mod Shown
pub mod Finds
