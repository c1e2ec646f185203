-- What crates above name of `kept_forgetting`, passed on.
pub use Rattle.kept_forgetting.specs.Below
pub use Rattle.kept_forgetting.specs.Forgotten
