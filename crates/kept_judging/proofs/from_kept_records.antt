-- What crates above name of `kept_records`, passed on.
pub use Rattle.kept_state.proofs.from_kept_records.Counting
pub use Rattle.kept_state.proofs.from_kept_records.Frames
pub use Rattle.kept_state.proofs.from_kept_records.Kept
pub use Rattle.kept_state.proofs.from_kept_records.Lists
pub use Rattle.kept_state.proofs.from_kept_records.Made
pub use Rattle.kept_state.proofs.from_kept_records.Modelled
pub use Rattle.kept_state.proofs.from_kept_records.Nodes
pub use Rattle.kept_state.proofs.from_kept_records.Said
pub use Rattle.kept_state.proofs.from_kept_records.Settled
pub use Rattle.kept_state.proofs.from_kept_records.Sums
