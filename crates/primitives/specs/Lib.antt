pub mod Ends
pub mod Shapes
pub mod Asking
pub mod Leaves
