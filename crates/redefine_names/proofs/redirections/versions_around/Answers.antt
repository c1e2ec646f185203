use Rattle.std.proofs.Common.{◌≡◌, ℕ, ◌==◌, ◌<◌, ◌∙◌, List, None, Some, ap, refl, length, set, arith}
use Rattle.std.proofs.lemmas.Option.{slice_get_read}
use Rattle.std.proofs.lemmas.List.{get_or_default, length-set}
use Rattle.std.specs.Prelude.{slice_get, slice_index_or, if◌then◌else◌}
use Rattle.std.specs.List.{list_any}
use Rattle.redefine_names.specs.VersionNames.{original_at}
use Rattle.redefine_names.specs.Redirections.{version_or}
use Rattle.redefine_names.proofs.AroundLaws.{done-step, ahead-step}
use Rattle.redefine_names.proofs.redirections.versions_around.Goals as goal

pub loop-place-preserved : goal.loop-place-preserved
loop-place-preserved c =
    let reps = c.args.reps.now in
    let originals = c.args.originals.now in
    let i = c.loop-place.place in
    let was = c.loop-place.table.items in
    let here = c.version_or-version.result in
    let rep = c.index-reps-place.result in
    let at : slice_get reps i ≡ Some rep = slice_get_read reps (length reps) i rep refl c.loop-place-test.true c.index-reps-place.is in
    let many = c.loop-place.invariant.many in
    let is : here ≡ version_or i (original_at originals i) (slice_index_or was i None) =
    c.version_or-version.ensures
    ∙ ap (version_or i (original_at originals i)) (c.index.ensures ∙ get_or_default was i c.index.result.now None (let l : i < length was = omega (arith, c.loop-place-test.true, many) in l)) in
    let put : (p : ℕ) → slice_index_or c.put_members.new.table.items p None ≡ (if list_any (λ member. member == p) rep.members then here else slice_index_or (set was i here) p None) =
    λ p. c.put_members.ensures.put p ∙ ap (λ (ms : List ℕ). if list_any (λ member. member == p) ms then here else slice_index_or (set was i here) p None) c.as_slice.ensures in
    record {
      many = c.put_members.ensures.many ∙ (length-set was i here ∙ many);
      done = done-step reps originals c.requires.behind i rep at c.loop-place-test.true was c.put_members.new.table.items here many c.loop-place.invariant.done c.loop-place.invariant.ahead is put;
      ahead = ahead-step reps originals c.requires.behind i rep at c.loop-place-test.true was c.put_members.new.table.items here many c.loop-place.invariant.done c.loop-place.invariant.ahead is put;
    }
