-- What crates above name of `edit_session`, passed on.
pub use Rattle.open_document.specs.from_edit_session.Changed
pub use Rattle.open_document.specs.from_edit_session.Around
pub use Rattle.open_document.specs.from_edit_session.AroundError
pub use Rattle.open_document.specs.from_edit_session.Reopened
