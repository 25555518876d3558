-- The laws that the proofs of replies cite, and the theorem on its contract.
pub mod Alike
pub mod Determined
pub mod Replying
