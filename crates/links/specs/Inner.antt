pub mod Linking
pub mod Planning
