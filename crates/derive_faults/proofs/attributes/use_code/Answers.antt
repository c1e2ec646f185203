use Rattle.std.proofs.Common.{◌≡◌, List, Some, length, slice_get, refl, subst}
use Rattle.std.proofs.lemmas.Option.{slice_get_read}
use Rattle.xs_components.specs.declared.attribute.AttributeDecl.{AttributeDecl}
use Rattle.derive_faults.proofs.CodeLaws.{use-in}
use Rattle.derive_faults.proofs.attributes.use_code.Goals as goal

pub returns-in-Some-get-clause-first : goal.returns-in-Some-get-clause-first
returns-in-Some-get-clause-first c =
    let t = c.args.set.now.parts.now in
    let part = c.args.part.now in
    let decl = c.in-Some-get.decl.now in
    let there = rw c.in-Some-get.is at c.get.ensures.lookup in
    let at : slice_get t.attributes.parts part.attribute ≡ Some decl = subst (λ (xs : List AttributeDecl). slice_get xs part.attribute ≡ Some decl) c.attributes.ensures.parts (subst (λ n. slice_get c.attributes.result.now n ≡ Some decl) c.number.ensures (slice_get_read c.attributes.result.now (length c.attributes.result.now) c.number.result decl refl there.3.0 there.1)) in
    use-in t part decl c.in-Some.own c.in-Some.is at c.own_code.result c.own_code.ensures.first
