pub mod Put
pub mod Records
