pub mod Draws
pub mod Pieces
pub mod Lines
pub mod Rest
pub mod Summaries
