use Rattle.std.proofs.Common.{◌≡◌, map, take}
use Rattle.doc_readers.specs.Heads.{text_named}
use Rattle.doc_readers.proofs.heads.texts_of.Given as goal

abbrev pub invariant-loop-attribute : goal.invariant-loop-attribute
invariant-loop-attribute l = l.texts ≡ map text_named (take l.attribute-index l.attributes)
