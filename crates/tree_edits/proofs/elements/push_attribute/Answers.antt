use Rattle.std.proofs.Common.{◌+◌, ◌<◌, List, length, sym, ap, ◌∙◌, arith}
use Rattle.tree_rows.specs.declared.row.Attribute.{Attribute}
use Rattle.tree_edits.specs.Changes.{has_name}
use Rattle.tree_edits.proofs.Attributing.{set_behind, room_left}
use Rattle.tree_edits.proofs.elements.push_attribute.Goals as goal

pub returns-clause-ok : goal.returns-clause-ok
returns-clause-ok c =
    let row = c.args.row.now in let name = c.args.name in
    let less : length row.attributes + length row.bindings < 256 =
    omega (arith, c.len.ensures, c.len-2.ensures, c.saturating_add.ensures, c.if-saturating_add-ge-MAX_ATTRIBUTES.false) in (
      ap (λ (xs : List Attribute). record row { attributes = xs }) (c.in_ok-push.ensures.ok ∙ sym (set_behind name c.args.value row.attributes c.requires)),
      room_left (has_name name row.attributes) (length row.attributes + length row.bindings) less,
    )
