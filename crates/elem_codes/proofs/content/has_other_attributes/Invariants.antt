use Rattle.std.proofs.Common.{◌≡◌, drop}
use Rattle.std.specs.List.{list_any}
use Rattle.elem_codes.specs.Codes.{is_other_attribute}
use Rattle.elem_codes.proofs.content.has_other_attributes.Given as goal

abbrev pub invariant-loop-attr : goal.invariant-loop-attr
invariant-loop-attr l = list_any (is_other_attribute l.names) (drop l.attr-index l.attrs) ≡ list_any (is_other_attribute l.names) l.attrs
