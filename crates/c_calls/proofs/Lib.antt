-- What the proofs of c_calls use, and that a run has one result only.
pub mod Determined
mod Tellings
