-- The words of inner contracts: a status and a report, as a line has them, and the guard's calls.
pub mod Answers
pub mod Calls
