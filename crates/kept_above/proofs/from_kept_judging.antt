-- What crates above name of `kept_judging`, passed on.
pub use Rattle.kept_judging.proofs.Anew
pub use Rattle.kept_judging.proofs.Heads
pub use Rattle.kept_judging.proofs.Keeping
