-- What crates above name of `kept_targets`, passed on.
pub use Rattle.kept_targets.specs.Moved
pub use Rattle.kept_targets.specs.Turned
pub use Rattle.kept_targets.specs.declared.turn.Turn
pub use Rattle.kept_targets.specs.declared.keys.TargetKeys
