-- The definitions that lexer's contracts cite.
pub mod Classes
pub mod Readings
pub mod Vocabulary
pub mod Judgements
