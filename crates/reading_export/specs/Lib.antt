-- The definitions that the contracts of reading_export cite.
pub mod Numbers
