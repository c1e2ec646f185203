use Rattle.std.proofs.Common.{length, ◌∙◌}
use Rattle.std.proofs.lemmas.Option.{slice_get_within}
use Rattle.derive_faults.proofs.FaultLaws.{next-in, all-in}
use Rattle.derive_faults.specs.Attributes.{IsDeclAt}
use Rattle.derive_faults.proofs.attributes.first_of_decls.Goals as goal

pub loop-id-preserved : goal.loop-id-preserved
loop-id-preserved c =
    let t = c.args.set.now.parts.now in
    let next = next-in (IsDeclAt t) (length t.attributes.parts) c.loop-id.number c.in-Some.id c.loop-id.best c.in_ok-found.found c.sooner-best.result c.in-Some.ensures.there c.sooner-best.ensures.sooner c.loop-id.invariant.least c.in_ok-found.ensures.least in
    record { few = next.0; same = c.decl_fault.ensures.same ∙ c.loop-id.invariant.same; least = next.1 }

pub returns-clause-least : goal.returns-clause-least
returns-clause-least c =
    let t = c.args.set.now.parts.now in
    all-in (IsDeclAt t) (length t.attributes.parts) c.loop-id.number c.loop-id.best c.in_default.ensures.past (λ k f x. slice_get_within t.attributes.parts k x.0 x.1) c.loop-id.invariant.least
