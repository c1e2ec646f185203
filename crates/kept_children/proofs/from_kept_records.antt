-- What crates above name of `kept_records`, passed on.
pub use Rattle.child_lists.proofs.from_kept_records.Frames
pub use Rattle.child_lists.proofs.from_kept_records.Kept
pub use Rattle.child_lists.proofs.from_kept_records.Made
pub use Rattle.child_lists.proofs.from_kept_records.Modelled
pub use Rattle.child_lists.proofs.from_kept_records.Nodes
pub use Rattle.child_lists.proofs.from_kept_records.Said
pub use Rattle.child_lists.proofs.from_kept_records.Settled
pub use Rattle.child_lists.proofs.from_kept_records.Sums
