-- The words of inner contracts: what a call is given and leaves, as a line has it.
pub mod Calls
pub mod Deletes
