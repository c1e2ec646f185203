-- What crates above name of `kept_records`, passed on.
pub use Rattle.kept_judging.proofs.from_kept_records.Frames
pub use Rattle.kept_judging.proofs.from_kept_records.Kept
pub use Rattle.kept_judging.proofs.from_kept_records.Made
pub use Rattle.kept_judging.proofs.from_kept_records.Nodes
