-- The definitions that the contracts of objects cite.
pub mod Readings
pub mod Writings
