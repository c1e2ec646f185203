use Rattle.std.proofs.Common.{◌≡◌, Some, length, slice_get, refl, ◌∙◌}
use Rattle.std.proofs.lemmas.Option.{slice_get_read, slice_get_within}
use Rattle.xs_components.specs.declared.attribute.AttrUse.{AttrUse}
use Rattle.derive_faults.proofs.FaultLaws.{one-more, all-in}
use Rattle.derive_faults.specs.Attributes.{BreaksUse, IsUseAt}
use Rattle.derive_faults.proofs.PartLaws.{coded-in}
use Rattle.derive_faults.proofs.attributes.first_of_uses.Goals as goal

pub loop-part-preserved : goal.loop-part-preserved
loop-part-preserved c =
    let t = c.args.set.now.parts.now in
    let uses = c.args.uses.now in
    let i = c.loop-part.part-index in
    let part = c.part-item.result in
    let at : slice_get uses i ≡ Some part = slice_get_read uses (length uses) i part refl c.loop-part-test.true c.part-item.is in
    let own = coded-in uses (λ (u : AttrUse). u.at) (BreaksUse t) i part at c.in_ok-code.code c.coded.result c.coded.ensures c.in_ok-code.ensures.first in
    record {
      same = c.use_code.ensures.same ∙ c.loop-part.invariant.same;
      least = one-more (IsUseAt t uses) i c.loop-part.best c.coded.result c.sooner-best.result c.sooner-best.ensures.sooner c.loop-part.invariant.least own;
    }

pub returns-clause-least : goal.returns-clause-least
returns-clause-least c =
    let uses = c.args.uses.now in
    all-in (IsUseAt c.args.set.now.parts.now uses) (length uses) c.loop-part.part-index c.loop-part.best c.loop-part-test.false (λ k f x. slice_get_within uses k x.0 x.1) c.loop-part.invariant.least
