pub mod Decisions
pub mod Options
