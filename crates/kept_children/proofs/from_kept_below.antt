-- What crates above name of `kept_below`, passed on.
pub use Rattle.kept_below.proofs.Identity
pub use Rattle.kept_below.proofs.Moving
