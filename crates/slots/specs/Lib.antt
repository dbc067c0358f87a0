pub mod Sizes
pub mod Scratch
pub mod View
pub mod Ops
pub mod Store
pub mod Lent
pub mod Plain
pub mod Inner
