-- What crates above name of `kept_forgetting`, passed on.
pub use Rattle.child_lists.proofs.from_kept_forgetting.Depths
pub use Rattle.child_lists.proofs.from_kept_forgetting.Placed
pub use Rattle.child_lists.proofs.from_kept_forgetting.Walks
