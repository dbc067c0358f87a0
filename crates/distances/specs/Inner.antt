-- The words of inner contracts. Nothing here has to be believed.
pub mod Sums
pub mod Kept
