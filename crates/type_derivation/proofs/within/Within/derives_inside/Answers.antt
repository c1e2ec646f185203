use Rattle.std.proofs.Common.{◌≡◌, Some, refl, sym, ◌∙◌}
use Rattle.std.proofs.lemmas.Bool.{true≢false}
use Rattle.component_references.specs.Heights.{IsLower, type_height}
use Rattle.type_derivation.specs.Derives.{above}
use Rattle.type_derivation.proofs.BaseLaws.{above-lower}
use Rattle.type_derivation.proofs.InsideLaws.{ends-inside, ends-outside, goes-on}
use Rattle.type_derivation.proofs.within.Within.derives_inside.Goals as goal

pub returns-then-is_inside : goal.returns-then-is_inside
returns-then-is_inside c =
    let d = ends-inside c.args.parts.now c.args.excluded.now c.requires.ranked c.requires.simple c.requires.free c.args.self.now c.up.at c.up.invariant.0 c.requires.within c.is_inside.result c.is_inside.ensures c.if-is_inside.true in
    record { derives = ((λ _. c.up.invariant.1.1 d), (λ _. refl)) }

pub returns-in-None : goal.returns-in-None
returns-in-None c =
    let no = ends-outside c.args.parts.now c.args.excluded.now c.requires.ranked c.requires.simple c.requires.free c.args.self.now c.up.at c.up.invariant.0 c.requires.within c.is_inside.result c.is_inside.ensures c.if-is_inside.false (sym c.above.ensures ∙ c.in-None.is) in
    record { derives = ((λ e. absurd (true≢false (sym e))), (λ d. absurd (no (c.up.invariant.1.0 d)))) }

pub up-smaller : goal.up-smaller
up-smaller c =
    let there : above c.args.parts.now c.args.excluded.now c.up.at ≡ Some c.in-Some.next = sym c.above.ensures ∙ c.in-Some.is in
    let low : IsLower c.args.parts.now (type_height c.args.parts.now c.up.at) c.in-Some.next = rw there at (above-lower c.args.parts.now c.requires.ranked c.args.excluded.now c.up.at) in
    low.lower

pub up-preserved : goal.up-preserved
up-preserved c =
    let there : above c.args.parts.now c.args.excluded.now c.up.at ≡ Some c.in-Some.next = sym c.above.ensures ∙ c.in-Some.is in
    let low : IsLower c.args.parts.now (type_height c.args.parts.now c.up.at) c.in-Some.next = rw there at (above-lower c.args.parts.now c.requires.ranked c.args.excluded.now c.up.at) in
    let up = goes-on c.args.parts.now c.args.excluded.now c.requires.ranked c.requires.simple c.requires.free c.args.self.now c.up.at c.up.invariant.0 c.requires.within c.is_inside.result c.is_inside.ensures c.if-is_inside.false c.in-Some.next there in
    (low.there, ((λ d. up.0 (c.up.invariant.1.0 d)), (λ d. c.up.invariant.1.1 (up.1 d))))
