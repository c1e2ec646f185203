use Rattle.std.proofs.Common.{length, sym, subst, ◌∙◌}
use Rattle.redefine_names.specs.inside.Steps.{AreMarks}
use Rattle.redefine_names.proofs.PairLaws.{all-pairs}
use Rattle.redefine_names.proofs.finding.redefined_pairs.Goals as goal

pub returns : goal.returns
returns c = record {
  pairs = all-pairs c.args.reps.now c.args.originals.now c.deref.result.now (subst (AreMarks c.args.reps.now c.args.originals.now (length c.args.reps.now)) (sym c.deref.ensures.value) c.in_ok-marks.ensures.marks)
      (λ pairs. pairs.items) c.args.kind c.as_slice.result.now (c.as_slice.ensures ∙ c.in_ok-numbers.ensures) c.pairs_of.result c.pairs_of.ensures;
}
