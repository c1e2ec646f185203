-- What crates above name of `kept_state`, passed on.
pub use Rattle.kept_children.specs.from_kept_state.Kept
pub use Rattle.kept_children.specs.from_kept_state.KeptState
