pub mod Samples
pub mod Choices
