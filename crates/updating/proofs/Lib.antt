pub mod Fills
pub mod Empties
pub mod Named
