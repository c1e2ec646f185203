use Rattle.std.proofs.Common.{◌≡◌, Some, slice_get, sym, subst}
use Rattle.std.proofs.lemmas.Result.{IfOk-weaker}
use Rattle.simple_types.specs.Lookup.{looked_up, content_of}
use Rattle.simple_types.specs.Forms.{IsContentMade}
use Rattle.simple_types.specs.Judging.{Holds, IsContentAt}
use Rattle.simple_types.proofs.content.judged_content.Goals as goal

pub returns-in-Some : goal.returns-in-Some
returns-in-Some c =
    let parts = c.args.parts.now in
    let part = c.complex.result.now in
    let simples = c.args.simples.now in
    let at : slice_get parts.complexes.parts c.args.number ≡ Some part = subst (λ n. slice_get parts.complexes.parts n ≡ Some part) c.in-Some.ensures.there.0 c.complex.ensures.part in
    IfOk-weaker c.content_by.result (IsContentMade (looked_up simples) (content_of simples c.args.table.now) part.by_extension part.base part.content) (IsContentAt parts simples c.args.table.now c.args.number)
    (λ made is. subst (Holds (λ part. IsContentMade (looked_up simples) (content_of simples c.args.table.now) part.by_extension part.base part.content made)) (sym at) is) c.content_by.ensures
