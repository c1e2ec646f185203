-- What crates above name of `kept_state`, passed on.
pub use Rattle.kept_state.proofs.Beside
