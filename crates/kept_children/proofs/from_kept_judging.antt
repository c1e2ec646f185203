-- What crates above name of `kept_judging`, passed on.
pub use Rattle.child_lists.proofs.from_kept_judging.Anew
pub use Rattle.child_lists.proofs.from_kept_judging.Heads
pub use Rattle.child_lists.proofs.from_kept_judging.Reading
