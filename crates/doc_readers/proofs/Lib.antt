pub mod Reading
pub mod Showing
pub mod Shown
pub mod Counting
pub mod Silent
