mod AbsentLaws
mod CharacterLaws
pub mod GrownLaws
mod KeptLaws
mod NumberedLaws
pub mod NumberingLaws
mod QNameLaws
pub mod ScopeLaws
pub mod Again
pub mod Bare
pub mod Joining
pub mod Spacing
