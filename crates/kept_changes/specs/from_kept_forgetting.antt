-- What crates above name of `kept_forgetting`, passed on.
pub use Rattle.kept_children.specs.from_kept_forgetting.Below
