use Rattle.std.proofs.Common.{◌≡◌, length, slice_get, Some, refl, ◌∙◌, arith}
use Rattle.std.proofs.lemmas.Option.{slice_get_read}
use Rattle.reference_faults.specs.Imports.{origin_at}
use Rattle.reference_faults.proofs.CodeLaws.{none-below, one-more-by, all-faults}
use Rattle.reference_faults.proofs.NamedLaws.{named-at}
use Rattle.reference_faults.proofs.faults.first_of.Goals as goal

pub first_code-requires : goal.first_code-requires
first_code-requires c = record {
  named = named-at c.args.names.now c.args.reps.now c.loop-place.place c.index-reps-place.result
      (slice_get_read c.args.reps.now (length c.args.reps.now) c.loop-place.place c.index-reps-place.result refl c.loop-place-test.true c.index-reps-place.is) c.requires.named;
}

pub loop-place-init : goal.loop-place-init
loop-place-init c = record { rest = λ p h. refl; least = none-below c.args.names.now c.args.origins.now c.args.reps.now }

pub loop-place-preserved : goal.loop-place-preserved
loop-place-preserved c =
    let i = c.loop-place.place in
    let rep = c.index-reps-place.result in
    let is : slice_get c.args.reps.now i ≡ Some rep = slice_get_read c.args.reps.now (length c.args.reps.now) i rep refl c.loop-place-test.true c.index-reps-place.is in
    let origin : slice_get c.skip_to-rest.result.now 0 ≡ origin_at c.args.origins.now i = c.skip_to-rest.ensures.here ∙ c.loop-place.invariant.rest i (omega arith) in
    record {
      rest = λ p h. c.skip_to-rest.ensures.behind p (omega (arith, h)) ∙ c.loop-place.invariant.rest p (omega (arith, h));
      least = one-more-by c.args.names.now c.args.origins.now c.args.reps.now i rep c.loop-place.best c.args.lookup.now.spaces.now c.args.lookup.now.kinds.now
          (slice_get c.skip_to-rest.result.now 0) c.in_ok-code.code c.element_fault.result c.sooner-best.result c.requires.spaces c.requires.kinds origin c.in_ok-code.ensures.first
          c.element_fault.ensures c.sooner-best.ensures.sooner is c.loop-place.invariant.least;
    }

pub returns : goal.returns
returns c = record { least = all-faults c.args.names.now c.args.origins.now c.args.reps.now c.loop-place.place (omega arith) c.loop-place.best c.loop-place.invariant.least }
