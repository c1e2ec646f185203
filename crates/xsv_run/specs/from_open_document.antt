-- What crates above name of `open_document`, passed on.
pub use Rattle.stream_answers.specs.from_open_document.Answers
pub use Rattle.stream_answers.specs.from_open_document.Replies
pub use Rattle.stream_answers.specs.from_open_document.State
pub use Rattle.stream_answers.specs.from_open_document.Steps
pub use Rattle.stream_answers.specs.from_open_document.Touches
pub use Rattle.stream_answers.specs.from_open_document.TurnFault
