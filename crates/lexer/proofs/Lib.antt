-- The laws that the proofs of this crate and of those above it cite.
pub mod Spans
pub mod Sizes
pub mod Values
pub mod Computed
pub mod Words
pub mod Judged
