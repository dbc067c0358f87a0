pub mod Lanes
pub mod Inner
