use Rattle.std.proofs.Common.{◌≡◌, Some, slice_get, sym, subst}
use Rattle.std.proofs.lemmas.Result.{IfOk-weaker}
use Rattle.simple_types.specs.Lookup.{looked_up}
use Rattle.simple_types.specs.Forms.{IsFormMade}
use Rattle.simple_types.specs.Judging.{Holds, IsSimpleAt}
use Rattle.simple_types.proofs.filling.judged_number.Goals as goal

pub returns-in-Some : goal.returns-in-Some
returns-in-Some c =
    let parts = c.args.parts.now in
    let part = c.simple.result.now in
    let at : slice_get parts.simples.parts c.args.number ≡ Some part = subst (λ n. slice_get parts.simples.parts n ≡ Some part) c.in-Some.ensures.there.0 c.simple.ensures.part in
    IfOk-weaker c.judged_part.result (IsFormMade parts (looked_up c.args.table.now) part.at part.form) (IsSimpleAt parts c.args.table.now c.args.number)
    (λ made is. subst (Holds (λ part. IsFormMade parts (looked_up c.args.table.now) part.at part.form made)) (sym at) is) c.judged_part.ensures
