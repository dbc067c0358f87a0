mod Cases
pub mod Enabling
pub mod Alike
