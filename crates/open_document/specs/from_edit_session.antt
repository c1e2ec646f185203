-- What crates above name of `edit_session`, passed on.
pub use Rattle.edit_session.specs.Changed
pub use Rattle.edit_session.specs.Around
pub use Rattle.edit_session.specs.declared.around.AroundError
pub use Rattle.edit_session.specs.Reopened
