pub mod Bytes
pub mod Charging
pub mod Examples
