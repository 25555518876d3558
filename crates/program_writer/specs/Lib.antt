-- The definitions that the contracts of program_writer cite.
pub mod Layout
pub mod Walks
pub mod Depths
pub mod Programs
