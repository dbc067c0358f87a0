pub mod Walk
pub mod GreedySearch
pub mod Inner
