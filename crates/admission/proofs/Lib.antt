pub mod Landmarks
pub mod Seen
pub mod Entering
pub mod Pooling
pub mod Trying
pub mod Naming
pub mod Reporting
