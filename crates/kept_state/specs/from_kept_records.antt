-- What crates above name of `kept_records`, passed on.
pub use Rattle.kept_records.specs.Books
pub use Rattle.kept_records.specs.Fit
pub use Rattle.kept_records.specs.Found
pub use Rattle.kept_records.specs.Slots
pub use Rattle.kept_records.specs.declared.element.KeptElement
