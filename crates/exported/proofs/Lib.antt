pub mod Performs
pub mod Refused
pub mod History
