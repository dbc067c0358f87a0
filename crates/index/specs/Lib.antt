pub mod Refusal
pub mod Index
pub mod Lent
pub mod Run
pub mod Create
pub mod Inner
