pub mod Shared
pub mod Stands
pub mod Enables
pub mod Tested
pub mod Assesses
pub mod Guards
