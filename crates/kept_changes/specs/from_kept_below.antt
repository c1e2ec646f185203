-- What crates above name of `kept_below`, passed on.
pub use Rattle.kept_children.specs.from_kept_below.Moved
