use Rattle.std.proofs.Common.{List, subst}
use Rattle.xs_components.specs.declared.constraint.PathText.{PathText}
use Rattle.xpath_subset.specs.inside.Reading.{AreFieldsRead}
use Rattle.xpath_subset.proofs.ReadingLaws.{constraint-read}
use Rattle.xpath_subset.proofs.phase.constraint_reading.Goals as goal

pub returns : goal.returns
returns c =
    let read = subst (λ (fields : List PathText). AreFieldsRead fields c.in_ok-fields.fields) c.as_slice.ensures c.in_ok-fields.ensures in
    constraint-read c.args.parts.now c.args.constraint.now c.in_ok-selector.selector c.in_ok-fields.fields c.count_fault.result c.sooner-of_fields.result c.sooner.result
    c.in_ok-selector.ensures read c.count_fault.ensures c.sooner-of_fields.ensures.sooner c.sooner.ensures.sooner
