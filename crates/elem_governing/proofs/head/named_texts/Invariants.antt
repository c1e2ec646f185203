use Rattle.std.proofs.Common.{◌≡◌, ◌++◌, drop}
use Rattle.assess_records.specs.Numbered.{named_texts}
use Rattle.elem_governing.proofs.head.named_texts.Given as goal

abbrev pub invariant-loop-attribute : goal.invariant-loop-attribute
invariant-loop-attribute l = record {
  attrs : l.attrs ++ named_texts l.initial.names (drop l.attribute-index l.attributes) ≡ named_texts l.initial.names l.attributes;
  same : l.names ≡ l.initial.names;
}
