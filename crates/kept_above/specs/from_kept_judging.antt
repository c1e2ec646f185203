-- What crates above name of `kept_judging`, passed on.
pub use Rattle.kept_judging.specs.Judged
