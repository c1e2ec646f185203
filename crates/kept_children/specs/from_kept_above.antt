-- What crates above name of `kept_above`, passed on.
pub use Rattle.kept_above.specs.Climbing
