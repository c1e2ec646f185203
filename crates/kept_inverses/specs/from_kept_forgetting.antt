-- What crates above name of `kept_forgetting`, passed on.
pub use Rattle.kept_changes.specs.from_kept_forgetting.Below
