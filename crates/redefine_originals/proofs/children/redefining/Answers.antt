use Rattle.std.proofs.Common.{ℕ, map, Bor, ap, ◌∙◌}
use Rattle.schema_shape.specs.declared.forms.Shape.{Shape}
use Rattle.redefine_originals.specs.inside.Lists.{listed}
use Rattle.redefine_originals.specs.inside.Redefines.{redefine_entry, owner_numbers, all_inside}
use Rattle.redefine_originals.proofs.RedefineLaws.{redefining-is}
use Rattle.redefine_originals.proofs.children.redefining.Goals as goal

pub returns : goal.returns
returns c =
    let f = λ (k : ℕ). map (λ (s : Bor Shape). s.now) (listed c.in_ok-inside.inside k) in
    let found = map redefine_entry c.in_ok-found.found in
    c.in_ok-children.ensures
    ∙ ap (λ rs. all_inside f 0 (map redefine_entry rs)) c.as_slice-2.ensures
    ∙ redefining-is c.args.shapes.now f found (listed c.in_ok-owners.owners) c.in_ok-found.ensures
    (λ item. c.in_ok-owners.ensures item ∙ ap (λ rs. owner_numbers item 0 (map redefine_entry rs)) c.as_slice.ensures) c.in_ok-inside.ensures
