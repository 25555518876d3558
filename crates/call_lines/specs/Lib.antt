-- The definitions that the contracts of call_lines cite.
pub mod Budgets
pub mod Cutting
pub mod Printing
