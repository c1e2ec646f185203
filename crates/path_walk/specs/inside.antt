pub mod Nodes
pub mod Walk
pub mod Ends
pub mod Extended
