use Rattle.std.proofs.Common.{subst}
use Rattle.component_tables.specs.ContentTypes.{content_of}
use Rattle.component_tables.specs.declared.content_types.ContentType.{ContentType}
use Rattle.derive_faults.specs.TypeFaults.{IsFirstCode}
use Rattle.derive_faults.proofs.FaultLaws.{both-first}
use Rattle.derive_faults.specs.Elements.{BreaksContent, IsOnId}
use Rattle.derive_faults.proofs.elements.value_code.Goals as goal

pub returns-clause-first : goal.returns-clause-first
returns-clause-first c =
    let t = c.args.set.now.parts.now in
    let of = c.args.of.now in
    let constraint = c.args.constraint.now in
    let content = c.content_of-content.ensures.content t c.requires.found.contents in
    both-first (BreaksContent t of constraint (content_of t of)) (IsOnId t of) c.in_ok-broken.broken c.id_code.result c.earlier.result c.earlier.ensures
    (subst (λ (k : ContentType). IsFirstCode (BreaksContent t of constraint k) c.in_ok-broken.broken) content c.in_ok-broken.ensures.first)
    c.id_code.ensures.first
