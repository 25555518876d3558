pub mod Lengths
pub mod Appended
pub mod Standing
pub mod Stood
pub mod Names
