pub mod Leading
pub mod Going
pub mod Saying
pub mod OutcomeLaws
pub mod Forms
pub mod Terms
pub mod Filling
pub mod Wildcards
