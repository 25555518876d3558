-- The laws that the proofs of lines cite.
pub mod Splits
pub mod Spelled
pub mod Lettered
