pub mod Scored
pub mod Written
pub mod Kept
