-- Parents of nodes, as contracts of a session say them.
pub use Rattle.doc_tree.specs.Readers.{parent_of}
