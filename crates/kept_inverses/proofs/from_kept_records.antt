-- What crates above name of `kept_records`, passed on.
pub use Rattle.kept_changes.proofs.from_kept_records.Kept
pub use Rattle.kept_changes.proofs.from_kept_records.Made
pub use Rattle.kept_changes.proofs.from_kept_records.Nodes
pub use Rattle.kept_changes.proofs.from_kept_records.Said
pub use Rattle.kept_changes.proofs.from_kept_records.Sums
