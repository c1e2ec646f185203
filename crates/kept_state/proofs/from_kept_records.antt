-- What crates above name of `kept_records`, passed on.
pub use Rattle.kept_records.proofs.Counting
pub use Rattle.kept_records.proofs.Frames
pub use Rattle.kept_records.proofs.Kept
pub use Rattle.kept_records.proofs.Lists
pub use Rattle.kept_records.proofs.Made
pub use Rattle.kept_records.proofs.Modelled
pub use Rattle.kept_records.proofs.Nodes
pub use Rattle.kept_records.proofs.Said
pub use Rattle.kept_records.proofs.Settled
pub use Rattle.kept_records.proofs.Sums
