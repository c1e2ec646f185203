-- What crates above name of `kept_changes`, passed on.
pub use Rattle.kept_changes.proofs.Came
pub use Rattle.kept_changes.proofs.Changed
pub use Rattle.kept_changes.proofs.Following
pub use Rattle.kept_changes.proofs.Gone
pub use Rattle.kept_changes.proofs.Turned
