-- The words of inner contracts: readings of an index, as a line has them.
pub mod Readings
