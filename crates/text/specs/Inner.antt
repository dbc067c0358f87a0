-- The words of inner contracts: numbers in a line of text.
pub mod Text
