-- What crates above name of `kept_children`, passed on.
pub use Rattle.kept_changes.specs.from_kept_children.Edited
