pub mod Building
pub mod Changes
