pub mod Prune
pub mod RobustPrune
pub mod Inner
pub mod Lent
