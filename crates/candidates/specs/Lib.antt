pub mod Candidates
pub mod Quotient
pub mod Inner
