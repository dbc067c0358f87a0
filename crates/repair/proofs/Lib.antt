mod Cases
pub mod Agree
pub mod Span
pub mod Reached
pub mod Count
pub mod Sources
pub mod Counting
pub mod Entry
pub mod Alike
pub mod Twins
