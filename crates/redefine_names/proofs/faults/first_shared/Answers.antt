use Rattle.std.proofs.Common.{◌≡◌, ◌∙◌, ◌||◌, ap, refl, length, Bool, None, Some, arith}
use Rattle.std.specs.Prelude.{slice_get, nat_eq, if◌then◌else◌}
use Rattle.std.specs.HashSet.{contains}
use Rattle.std.specs.List.{list_any}
use Rattle.std.proofs.lemmas.Bool.{cases_lt}
use Rattle.std.proofs.lemmas.Option.{slice_get_read}
use Rattle.xs_codes.specs.Least.{sooner}
use Rattle.redefine_names.specs.Shared.{shared_fault, is_shared, is_original}
use Rattle.redefine_names.specs.inside.Met.{was_met}
use Rattle.redefine_names.proofs.SharedLaws.{none-below, all-below, one-more}
use Rattle.redefine_names.proofs.MetLaws.{again-is, met-more}
use Rattle.redefine_names.proofs.faults.first_shared.Goals as goal

pub loop-place-init : goal.loop-place-init
loop-place-init c = record {
  met = λ o. ap (list_any (nat_eq o)) c.new-met.ensures.empty;
  least = none-below c.args.reps.now c.args.originals.now;
}

pub loop-place-preserved : goal.loop-place-preserved
loop-place-preserved c =
    let reps = c.args.reps.now in
    let originals = c.args.originals.now in
    let i = c.loop-place.place in
    let rep = c.index-reps-place.result in
    let at : slice_get reps i ≡ Some rep = slice_get_read reps (length reps) i rep refl c.loop-place-test.true c.index-reps-place.is in
    let known = contains nat_eq c.loop-place.met in
    let shared : c.in_ok-shared.shared ≡ is_shared originals i =
    c.in_ok-shared.ensures.again ∙ (ap (was_met known) c.original_at.ensures ∙ again-is originals known i c.loop-place.invariant.met) in
    record {
      met = met-more originals known i c.loop-place.invariant.met (contains nat_eq c.meet.new.met) (cases_lt i (length originals))
          (λ o. c.in_ok-shared.ensures.met o ∙ ap (λ x. known o || is_original o x) c.original_at.ensures);
      least = one-more reps originals i rep at c.loop-place.best c.sooner-best.result
          (c.sooner-best.ensures.sooner ∙ ap (sooner c.loop-place.best) (c.fault_if.ensures ∙ ap (λ (b : Bool). if b then Some (shared_fault rep.at) else None) shared)) c.loop-place.invariant.least;
    }

pub returns : goal.returns
returns c = record { least = all-below c.args.reps.now c.args.originals.now c.loop-place.place c.loop-place.best (omega arith) c.loop-place.invariant.least }
