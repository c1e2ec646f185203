use Rattle.std.proofs.Common.{◌≡◌, ◌<◌, ◌∙◌, ap, refl, length, None, Some, arith}
use Rattle.std.proofs.lemmas.Option.{slice_get_read}
use Rattle.std.proofs.lemmas.List.{get_or_default}
use Rattle.std.specs.Prelude.{slice_get}
use Rattle.redefine_names.specs.Redirections.{version_around}
use Rattle.redefine_names.specs.inside.Steps.{self_referring}
use Rattle.redefine_names.proofs.MarkLaws.{marks-more}
use Rattle.redefine_names.proofs.marks.self_references.Goals as goal

pub loop-place-preserved : goal.loop-place-preserved
loop-place-preserved c =
    let reps = c.args.reps.now in
    let originals = c.args.originals.now in
    let i = c.loop-place.place in
    let rep = c.index-reps-place.result in
    let at : slice_get reps i ≡ Some rep = slice_get_read reps (length reps) i rep refl c.loop-place-test.true c.index-reps-place.is in
    let around : c.index.result.now ≡ version_around reps originals i =
    c.index.ensures
    ∙ (get_or_default c.in_ok-around.around.items i c.index.result.now None (let w = c.loop-place-test.true in let many = c.in_ok-around.ensures.many in let l : i < length c.in_ok-around.around.items = omega (arith, w, many) in l)
    ∙ c.in_ok-around.ensures.around i c.loop-place-test.true) in
    marks-more reps originals i rep c.loop-place.marks.items c.mark.new.marks.items c.self_referring.result at (c.self_referring.ensures ∙ ap (λ o. self_referring reps originals o rep.form) around) c.loop-place.invariant
    c.mark.ensures.marked
