pub mod Bodies
pub mod Defining
pub mod Naming
pub mod Programs
