pub mod IndexWords
pub mod GuardWords
pub mod Given
pub mod Inner
