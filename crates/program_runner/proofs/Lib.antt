pub mod Roots
pub mod Mains
