pub mod Encoding
pub mod Kinds
pub mod Standing
