-- What crates above name of `kept_children`, passed on.
pub use Rattle.kept_changes.proofs.from_kept_children.Still
