use Rattle.std.proofs.Common.{List, ℕ, refl, subst}
use Rattle.assess_records.specs.declared.record.AttrRecord.{AttrRecord}
use Rattle.assess_records.specs.declared.shape.NamedText.{NamedText}
use Rattle.elem_governing.specs.declared.local_types.XsiType.{XsiType}
use Rattle.attr_assess.specs.Assessed.{AreAttrsAssessed}
use Rattle.elem_assess.specs.Judged.{IsElementJudged}
use Rattle.elem_assess.specs.Local.{said_on}
use Rattle.elem_assess.proofs.records.local.Goals as goal

pub returns-clause-judged : goal.returns-clause-judged
returns-clause-judged c =
    let names = c.args.set.now.view.names.now in
    let t = c.args.set.now.view.parts.now in
    let g = c.args.of.now in
    let shape = c.args.shape.now in
    let found = c.in_ok-attributes.attributes in
    let judged = c.in_ok-judged.judged in
    let by_said = subst (λ (said : XsiType). IsElementJudged names t g said shape c.as_slice-2.result.now c.as_slice-3.result.now judged.element judged.value) c.in_ok-said.ensures c.in_ok-judged.ensures.judged in
    let by_records = subst (λ (records : List AttrRecord). IsElementJudged names t g (said_on names t g shape) shape records c.as_slice-3.result.now judged.element judged.value) c.as_slice-2.ensures by_said in
    record {
      attributes = found;
      assessed = subst (λ (attrs : List NamedText). AreAttrsAssessed names t g.of shape.scope attrs found) c.as_slice.ensures c.in_ok-attributes.ensures.assessed;
      known = subst (λ (missing : List ℕ). IsElementJudged names t g (said_on names t g shape) shape found.records missing judged.element judged.value) c.as_slice-3.ensures by_records;
      attrs_are = refl;
      attr_values_are = refl;
    }
