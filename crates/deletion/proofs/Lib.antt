pub mod Naming
pub mod Collecting
pub mod Making
pub mod Acting
pub mod Batching
pub mod Records
