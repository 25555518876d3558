-- The definitions that the contracts of examples cite.
pub mod Ahead
