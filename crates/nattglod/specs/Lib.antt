-- The definitions that the contracts of nattglod cite.
pub mod Calls
pub mod Stages
