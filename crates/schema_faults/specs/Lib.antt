pub mod Constructs
pub mod Children
pub mod ShapeFaults
pub mod Unsupported
pub mod Limits
pub mod Representation
pub mod Faults
pub mod Elements
