-- What crates above name of `kept_state`, passed on.
pub use Rattle.child_lists.proofs.from_kept_state.Beside
