pub mod Held
pub mod Told
pub mod Filling
pub mod Guarded
pub mod Emptied
pub mod Applied
