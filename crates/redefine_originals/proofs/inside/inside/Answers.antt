use Rattle.std.proofs.Common.{◌≡◌, ◌==◌, ◌∙◌, ap, sym, map, List, [], ◌∷◌, ℕ, Bor}
use Rattle.std.proofs.lemmas.List.{map-append}
use Rattle.std.specs.List.{list_any}
use Rattle.schema_shape.specs.declared.forms.Shape.{Shape}
use Rattle.redefine_originals.proofs.DocumentLaws.{kept-more, left-out}
use Rattle.redefine_originals.proofs.inside.inside.Goals as goal
use Rattle.redefine_originals.proofs.inside.inside.Goals.{then-contains+in_ok-push, else-contains}

pub loop-shape-preserved : goal.loop-shape-preserved
loop-shape-preserved c =
    let q = λ (s : Shape). list_any (λ item. item == s.item) c.args.parent.now.members in
    let tested : c.contains.result ≡ q c.shape-item.result =
    c.contains.ensures ∙ (c.in_ok-members.ensures c.shape-item.result.item ∙ ap (λ (ms : List ℕ). list_any (λ item. item == c.shape-item.result.item) ms) c.as_slice.ensures) in
    elim c.if-contains.branch [
      | then-contains+in_ok-push w ↦
          kept-more q c.args.shapes.now c.loop-shape.shape-index c.shape-item.result c.loop-shape-test.true c.shape-item.is
          (map (λ s. s.now) c.loop-shape.found) (map (λ s. s.now) c.if-contains.found) (sym tested ∙ w.if-contains.true) c.loop-shape.invariant
          (ap (map (λ (s : Bor Shape). s.now)) (w.found-is ∙ w.in_ok-push.ensures.ok) ∙ map-append (λ (s : Bor Shape). s.now) c.loop-shape.found (_ ∷ []))
      | else-contains w ↦
          ap (map (λ (s : Bor Shape). s.now)) w.found-is
          ∙ left-out q c.args.shapes.now c.loop-shape.shape-index c.shape-item.result c.loop-shape-test.true c.shape-item.is
          (map (λ s. s.now) c.loop-shape.found) (sym tested ∙ w.if-contains.false) c.loop-shape.invariant
    ]
