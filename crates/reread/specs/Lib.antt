-- The definitions that the contracts of reread cite.
pub mod Rereading
