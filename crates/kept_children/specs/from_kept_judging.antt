-- What crates above name of `kept_judging`, passed on.
pub use Rattle.child_lists.specs.from_kept_judging.Judged
