use Rattle.std.proofs.Common.{◌≡◌, ℕ, List, [], take, drop}
use Rattle.std.specs.Prelude.{reverse}
use Rattle.xs_names.specs.Names.{NameTable, Grown}
use Rattle.representations.specs.Documents.{shapes_table}
use Rattle.representations.specs.declared.parts.Representation.{Representation}
use Rattle.representations.specs.Wildcards.{KnowsTarget}
use Rattle.set_representations.specs.inside.Building.{IsRead}
use Rattle.set_representations.proofs.reader.Reader.add_all.Given as goal

abbrev pub invariant-loop-shape : goal.invariant-loop-shape
invariant-loop-shape l = record {
  target : KnowsTarget l.names l.self.reading;
  table : shapes_table l.initial.self.reading.naming (drop l.shape-index l.shapes) l.names ≡ shapes_table l.initial.self.reading.naming l.shapes l.initial.names;
  read : (base : List (List (List ℕ × ℕ))) (whole : NameTable → List Representation) (imported : NameTable → List ℕ)
      → IsRead l.initial.names base whole imported [] l.shapes l.initial.self l.initial.reps l.initial.scopes
      → IsRead l.names base whole imported (reverse (take l.shape-index l.shapes)) (drop l.shape-index l.shapes) l.self l.reps l.scopes;
  reading : l.self.reading ≡ l.initial.self.reading;
  grown : Grown l.initial.names l.names;
}
