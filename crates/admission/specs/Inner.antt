pub mod Pools
pub mod Trials
pub mod Reports
