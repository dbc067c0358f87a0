mod Cases
pub mod Current
pub mod Done
pub mod Written
pub mod Changes
pub mod Places
pub mod Count
mod Laid
pub mod Made
pub mod Agree
pub mod New
pub mod Writes
pub mod Reached
pub mod Live
pub mod Slices
pub mod Weights
pub mod Alike
