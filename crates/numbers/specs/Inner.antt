-- The words of inner contracts: what functions below the calls ask for and leave. The proofs of their callers use them up; of a function that has no caller
-- yet (docs/CLAIMS.md names them) the contract is to be read here.
pub mod Fits
pub mod Held
pub mod Listed
pub mod Chunks
