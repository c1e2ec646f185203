use Rattle.std.proofs.Common.{◌≡◌, Some, refl, sym, ◌∙◌}
use Rattle.std.proofs.lemmas.Bool.{true≢false}
use Rattle.component_references.specs.Heights.{IsLower, type_height}
use Rattle.type_derivation.specs.Derives.{above}
use Rattle.type_derivation.proofs.BaseLaws.{above-lower}
use Rattle.derive_models.specs.Derivation.{excluded}
use Rattle.derive_models.proofs.AlongLaws.{ends-same, ends-other, goes-on}
use Rattle.derive_models.proofs.chains.derives_along.Goals as goal

pub returns-then-is_same : goal.returns-then-is_same
returns-then-is_same c =
    let d = ends-same c.args.parts.now c.requires.simple c.args.base.now c.up.at c.requires.alone c.is_same.result c.is_same.ensures c.if-is_same.true in
    ((λ _. c.up.invariant.1.1 d), (λ _. refl))

pub returns-in-None : goal.returns-in-None
returns-in-None c =
    let no = ends-other c.args.parts.now c.requires.simple c.args.base.now c.up.at c.requires.alone c.is_same.result c.is_same.ensures c.if-is_same.false (sym c.restricted_by.ensures ∙ c.in-None.is) in
    ((λ e. absurd (true≢false (sym e))), (λ d. absurd (no (c.up.invariant.1.0 d))))

pub up-smaller : goal.up-smaller
up-smaller c =
    let there : above c.args.parts.now excluded c.up.at ≡ Some c.in-Some.next = sym c.restricted_by.ensures ∙ c.in-Some.is in
    let low : IsLower c.args.parts.now (type_height c.args.parts.now c.up.at) c.in-Some.next = rw there at (above-lower c.args.parts.now c.requires.ranked excluded c.up.at) in
    low.lower

pub up-preserved : goal.up-preserved
up-preserved c =
    let there : above c.args.parts.now excluded c.up.at ≡ Some c.in-Some.next = sym c.restricted_by.ensures ∙ c.in-Some.is in
    let low : IsLower c.args.parts.now (type_height c.args.parts.now c.up.at) c.in-Some.next = rw there at (above-lower c.args.parts.now c.requires.ranked excluded c.up.at) in
    let up = goes-on c.args.parts.now c.requires.simple c.args.base.now c.up.at c.requires.alone c.is_same.result c.is_same.ensures c.if-is_same.false c.in-Some.next there in
    (low.there, ((λ d. up.0 (c.up.invariant.1.0 d)), (λ d. c.up.invariant.1.1 (up.1 d))))
