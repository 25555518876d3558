pub mod Reps
pub mod Places
pub mod Ring
pub mod Inversions
pub mod Encoded
pub mod Lengths
pub mod Compared
