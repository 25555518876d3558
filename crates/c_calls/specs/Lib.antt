-- The definitions that the contracts of c_calls cite.
pub mod Told
