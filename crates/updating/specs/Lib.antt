pub mod Insert
pub mod Delete
pub mod Inner
