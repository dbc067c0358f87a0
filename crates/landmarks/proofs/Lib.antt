pub mod Looking
pub mod Sampling
pub mod Drawing
pub mod Choosing
pub mod Selecting
