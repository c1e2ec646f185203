-- What crates above name of `kept_children`, passed on.
pub use Rattle.kept_children.proofs.Still
