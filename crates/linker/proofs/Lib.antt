pub mod Trees
pub mod Records
pub mod Walks
pub mod Naming
