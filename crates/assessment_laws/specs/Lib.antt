pub mod There
pub mod Few
pub mod Flags
pub mod Shown
pub mod GrownThere
pub mod Grown
pub mod Governed
pub mod Ambivalent
