-- The words of inner contracts: what a line begins with, and what is lent.
pub mod Answers
pub mod Given
pub mod Lent
pub mod Prepared
pub mod Words
