pub mod Shapes
pub mod Shaped
pub mod Examples
pub mod inside
