-- What crates above name of `kept_judging`, passed on.
pub use Rattle.child_listing.specs.from_kept_judging.Judged
