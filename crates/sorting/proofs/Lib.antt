pub mod Counts
pub mod Moves
pub mod Search
pub mod Settling
pub mod ByKey
