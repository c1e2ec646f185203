-- What crates above name of `kept_children`, passed on.
pub use Rattle.kept_children.specs.Edited
pub use Rattle.kept_children.specs.Steps
