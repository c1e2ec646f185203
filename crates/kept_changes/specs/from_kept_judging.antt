-- What crates above name of `kept_judging`, passed on.
pub use Rattle.kept_children.specs.from_kept_judging.Judged
