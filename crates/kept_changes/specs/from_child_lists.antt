-- What crates above name of `child_lists`, passed on.
pub use Rattle.kept_children.specs.from_child_lists.Family
