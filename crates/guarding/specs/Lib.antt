pub mod Guarding
pub mod Guarded
pub mod Inner
