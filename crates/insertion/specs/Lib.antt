pub mod Batch
pub mod Lent
pub mod Inner
