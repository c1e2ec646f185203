pub mod SameLaws
pub mod DerivedLaws
pub mod ScopeLaws
pub mod There
mod Known
mod Tags
mod Siblings
pub mod Regoverned
