pub mod Layout
pub mod Naming
pub mod Plans
pub mod Acts
