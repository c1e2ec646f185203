use Rattle.std.proofs.Common.{List, sym, ap, ◌∙◌}
use Rattle.std.specs.List.{position}
use Rattle.std.proofs.lemmas.List.Quantifiers.{position-Some}
use Rattle.tree_rows.specs.Naming.{same_name}
use Rattle.tree_rows.specs.declared.row.Attribute.{Attribute}
use Rattle.tree_edits.proofs.Attributing.{set_is, none_of, has_at, room_own, written}
use Rattle.tree_edits.proofs.elements.write_attribute.Goals as goal

pub push_attribute-requires : goal.push_attribute-requires
push_attribute-requires c =
    none_of c.args.name c.args.row.now.attributes
    (ap (position (λ (a : Attribute). same_name a.name c.args.name)) (sym c.as_slice.ensures) ∙ sym c.attribute_place.ensures ∙ c.in-None.is)

pub returns-in-Some-clause-ok : goal.returns-in-Some-clause-ok
returns-in-Some-clause-ok c =
    let row = c.args.row.now in let name = c.args.name in
    let new : Attribute = record { name = name; value = c.args.value } in
    let p = position-Some (λ (a : Attribute). same_name a.name name) row.attributes c.in-Some.place new
    (ap (position (λ (a : Attribute). same_name a.name name)) (sym c.as_slice.ensures) ∙ sym c.attribute_place.ensures ∙ c.in-Some.is) in (
      ap (λ (xs : List Attribute). record row { attributes = xs })
          (written row.attributes c.as_mut_slice.result.now c.in-Some.place new c.as_mut_slice.ensures.value
          ∙ set_is name c.args.value row.attributes c.in-Some.place new p.0 p.1 p.2),
      room_own name row.bindings row.attributes (has_at name row.attributes c.in-Some.place new p.0 p.1),
    )
