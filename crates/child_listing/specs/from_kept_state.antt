-- What crates above name of `kept_state`, passed on.
pub use Rattle.kept_judging.specs.from_kept_state.Kept
pub use Rattle.kept_judging.specs.from_kept_state.KeptChildren
pub use Rattle.kept_judging.specs.from_kept_state.Governed
pub use Rattle.kept_judging.specs.from_kept_state.Outcome
pub use Rattle.kept_judging.specs.from_kept_state.KeptState
