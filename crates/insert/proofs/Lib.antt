mod Cases
pub mod Agree
pub mod Chunks
pub mod Reached
pub mod Free
pub mod Entry
pub mod Alike
pub mod Twins
