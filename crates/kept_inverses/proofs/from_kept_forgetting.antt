-- What crates above name of `kept_forgetting`, passed on.
pub use Rattle.kept_changes.proofs.from_kept_forgetting.Placed
pub use Rattle.kept_changes.proofs.from_kept_forgetting.Walks
