use Rattle.std.proofs.Common.{sym, ap, ◌∙◌}
use Rattle.simple_types.proofs.Valid.{one-outcome}
use Rattle.assessment.specs.Joined.{with_codes}
use Rattle.assessment.specs.Plain.{plain_beside}
use Rattle.assessment_laws.proofs.Only.{only-assessment}
use Rattle.assessment_laws.proofs.laws.the_assessment_with_ids_is_the_only_one.Goals as goal

pub returns : goal.returns
returns c = record {
  only = λ s d x y sound named tree p q.
      let a = c.codes_of_ids_join_the_assessment.ensures.parted s d x tree p in
      let b = c.codes_of_ids_join_the_assessment.ensures.parted s d y tree q in
      a.2 ∙ (ap with_codes (only-assessment s plain_beside (one-outcome s.parts) sound named d.forest a.0 b.0 a.1 b.1) ∙ sym b.2);
}
