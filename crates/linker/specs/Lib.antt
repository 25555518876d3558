pub mod Linked
pub mod Roots
pub mod Indexing
pub mod Linking
