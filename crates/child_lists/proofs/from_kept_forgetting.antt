-- What crates above name of `kept_forgetting`, passed on.
pub use Rattle.kept_forgetting.proofs.Depths
pub use Rattle.kept_forgetting.proofs.Placed
pub use Rattle.kept_forgetting.proofs.Walks
