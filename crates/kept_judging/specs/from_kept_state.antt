-- What crates above name of `kept_state`, passed on.
pub use Rattle.kept_state.specs.Kept
pub use Rattle.kept_state.specs.declared.children.KeptChildren
pub use Rattle.kept_state.specs.declared.element.Governed
pub use Rattle.kept_state.specs.declared.element.Outcome
pub use Rattle.kept_state.specs.declared.state.KeptState
