-- What crates above name of `kept_records`, passed on.
pub use Rattle.child_lists.specs.from_kept_records.Books
pub use Rattle.child_lists.specs.from_kept_records.Fit
pub use Rattle.child_lists.specs.from_kept_records.Found
pub use Rattle.child_lists.specs.from_kept_records.Slots
pub use Rattle.child_lists.specs.from_kept_records.KeptElement
