-- What crates above name of `kept_state`, passed on.
pub use Rattle.child_lists.specs.from_kept_state.Kept
pub use Rattle.child_lists.specs.from_kept_state.KeptChildren
pub use Rattle.child_lists.specs.from_kept_state.Governed
pub use Rattle.child_lists.specs.from_kept_state.Outcome
pub use Rattle.child_lists.specs.from_kept_state.KeptState
