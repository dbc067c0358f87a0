-- The words of inner contracts: what functions below the calls ask for and leave. The proofs of their callers use them up.
pub mod Testing
