pub mod Refusals
pub mod Faults
pub mod Output
pub mod inside
pub mod from_edit_session
pub mod from_open_document
