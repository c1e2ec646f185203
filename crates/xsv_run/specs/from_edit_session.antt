-- What crates above name of `edit_session`, passed on.
pub use Rattle.stream_answers.specs.from_edit_session.Around
pub use Rattle.stream_answers.specs.from_edit_session.AroundError
