pub mod Read
pub mod Search
pub mod Inner
