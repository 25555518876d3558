-- The laws that the proofs of program_writer cite.
pub mod Wrote
pub mod Constants
pub mod FormTexts
pub mod Rows
pub mod FormWalks
pub mod MarkWalks
pub mod Programs
