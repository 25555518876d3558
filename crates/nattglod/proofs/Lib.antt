-- The laws that the proofs of nattglod cite, and the theorems on its contracts.
pub mod Determined
pub mod Ended
pub mod Exits
pub mod Standing
pub mod TextExits
pub mod Written
