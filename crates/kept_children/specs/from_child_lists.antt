-- What crates above name of `child_lists`, passed on.
pub use Rattle.child_lists.specs.Family
pub use Rattle.child_lists.specs.Places
pub use Rattle.child_lists.specs.declared.place.ChildPlace
