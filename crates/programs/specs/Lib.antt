-- The definitions that the contracts of programs cite.
pub mod Bodies
pub mod Definitions
