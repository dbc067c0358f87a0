pub mod Repair
pub mod Delete
