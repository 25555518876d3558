-- The definitions that the contracts of forms cite.
pub mod Readers
pub mod Readings
