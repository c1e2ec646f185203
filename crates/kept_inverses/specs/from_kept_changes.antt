-- What crates above name of `kept_changes`, passed on.
pub use Rattle.kept_changes.specs.Own
pub use Rattle.kept_changes.specs.Spots
pub use Rattle.kept_changes.specs.Steps
pub use Rattle.kept_changes.specs.Turned
pub use Rattle.kept_changes.specs.declared.change.Spot
