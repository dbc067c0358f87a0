-- The words of inner contracts: what functions below the exported ones ask for and leave. Nothing here has to be believed.
pub mod Putting
