-- What crates above name of `kept_records`, passed on.
pub use Rattle.kept_children.specs.from_kept_records.Books
pub use Rattle.kept_children.specs.from_kept_records.Fit
pub use Rattle.kept_children.specs.from_kept_records.Found
pub use Rattle.kept_children.specs.from_kept_records.Slots
pub use Rattle.kept_children.specs.from_kept_records.KeptElement
