use Rattle.std.proofs.Common.{◌≡◌, ◌+◌, Some, length, slice_get, refl, sym, ap, ◌∙◌, subst, arith}
use Rattle.std.proofs.lemmas.Option.{slice_get_read}
use Rattle.xs_codes.specs.Least.{sooner, IsLeast}
use Rattle.type_derivation.proofs.FaultLaws.{FaultBelow, one-more, all-faults}
use Rattle.type_derivation.proofs.bases.first_of.Goals as goal

pub loop-part-preserved : goal.loop-part-preserved
loop-part-preserved c =
    let i = c.loop-part.part-index in
    let part = c.part-item.result in
    let is : slice_get c.args.types.now i ≡ Some part = slice_get_read c.args.types.now (length c.args.types.now) i part refl (omega arith) c.part-item.is in
    subst (IsLeast (FaultBelow c.args.types.now c.args.known.now (i + 1))) (sym (c.sooner-best.ensures.sooner ∙ ap (sooner c.loop-part.best) c.fault_of.ensures))
    (one-more c.args.types.now c.args.known.now i part c.loop-part.best is c.loop-part.invariant)

pub returns : goal.returns
returns c = record { least = all-faults c.args.types.now c.args.known.now c.loop-part.part-index (omega arith) c.loop-part.best c.loop-part.invariant }
