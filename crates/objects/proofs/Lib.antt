-- The laws that the proofs of objects cite.
pub mod Refused
pub mod NumberTexts
pub mod Walks
pub mod Writes
pub mod Symbols
pub mod ObjectReads
