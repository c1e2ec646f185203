-- What crates above name of `kept_below`, passed on.
pub use Rattle.kept_below.specs.Below
pub use Rattle.kept_below.specs.Moved
