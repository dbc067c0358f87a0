pub mod Linking
pub mod Scoring
pub mod Swapping
pub mod Spanning
pub mod Planning
pub mod Counting
pub mod Queue
pub mod Order
