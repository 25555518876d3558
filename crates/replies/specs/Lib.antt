-- The definitions that the contracts of replies cite.
pub mod Replies
