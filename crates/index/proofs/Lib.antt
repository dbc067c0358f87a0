pub mod Decide
pub mod Weigh
pub mod Makes
pub mod Calls
