use Rattle.std.proofs.Common.{List, length, ◌∙◌, subst}
use Rattle.std.proofs.lemmas.Option.{slice_get_within}
use Rattle.xs_components.specs.declared.attribute.AttrUse.{AttrUse}
use Rattle.xs_components.specs.declared.attr_group.AttrGroupDef.{AttrGroupDef}
use Rattle.xs_codes.specs.Least.{IsLeast}
use Rattle.derive_faults.proofs.FaultLaws.{next-in, all-in}
use Rattle.derive_faults.specs.Attributes.{IsUseFault, IsGroupAt}
use Rattle.derive_faults.proofs.PartLaws.{part-in}
use Rattle.derive_faults.proofs.attributes.first_of_groups.Goals as goal

pub loop-id-preserved : goal.loop-id-preserved
loop-id-preserved c =
    let t = c.args.set.now.parts.now in
    let found = c.in_ok-found.found in
    let own = part-in t.attr_groups.parts (λ (part : AttrGroupDef). IsUseFault t part.uses) c.in-Some.id c.attr_group.result.now c.attr_group.ensures.part found
    (subst (λ (uses : List AttrUse). IsLeast (IsUseFault t uses) found) c.as_slice-uses.ensures c.in_ok-found.ensures.least) in
    let next = next-in (IsGroupAt t) (length t.attr_groups.parts) c.loop-id.number c.in-Some.id c.loop-id.best found c.sooner-best.result c.in-Some.ensures.there c.sooner-best.ensures.sooner c.loop-id.invariant.least own in
    record { few = next.0; same = c.first_of_uses.ensures.same ∙ c.loop-id.invariant.same; least = next.1 }

pub returns-clause-least : goal.returns-clause-least
returns-clause-least c =
    let t = c.args.set.now.parts.now in
    all-in (IsGroupAt t) (length t.attr_groups.parts) c.loop-id.number c.loop-id.best c.in_default.ensures.past (λ k f x. slice_get_within t.attr_groups.parts k x.0 x.1) c.loop-id.invariant.least
