pub mod Ring
pub mod Applying
