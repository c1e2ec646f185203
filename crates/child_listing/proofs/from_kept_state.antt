-- What crates above name of `kept_state`, passed on.
pub use Rattle.kept_judging.proofs.from_kept_state.Beside
