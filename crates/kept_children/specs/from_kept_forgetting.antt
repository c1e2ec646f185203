-- What crates above name of `kept_forgetting`, passed on.
pub use Rattle.child_lists.specs.from_kept_forgetting.Below
pub use Rattle.child_lists.specs.from_kept_forgetting.Forgotten
