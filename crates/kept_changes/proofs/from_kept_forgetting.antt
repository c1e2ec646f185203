-- What crates above name of `kept_forgetting`, passed on.
pub use Rattle.kept_children.proofs.from_kept_forgetting.Depths
pub use Rattle.kept_children.proofs.from_kept_forgetting.Placed
pub use Rattle.kept_children.proofs.from_kept_forgetting.Walks
