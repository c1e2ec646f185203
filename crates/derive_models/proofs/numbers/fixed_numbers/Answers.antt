use Rattle.std.proofs.Common.{◌≡◌, ℕ, ◌+◌, length, sym, ◌∙◌, subst, arith}
use Rattle.derive_models.specs.inside.Numbered.{IsNumbered, AreNumbered}
use Rattle.derive_models.proofs.NumberLaws.{numbered-more, fixed-numbers}
use Rattle.derive_models.proofs.numbers.fixed_numbers.Goals as goal

pub loop-id-preserved : goal.loop-id-preserved
loop-id-preserved c =
    let t = c.args.parts.now in
    let keys = c.add_number.new.keys.keys in
    let told = c.in_ok-add_number.ensures.number in
    let is = subst (λ (n : ℕ). IsNumbered t keys n told.0) c.in-Some.ensures.there.0 told.2 in
    let more = numbered-more t c.loop-id.keys.keys keys c.loop-id.number c.loop-id.numbers.items c.loop-id.invariant.numbered c.in_ok-add_number.ensures.grows told.0 is in
    record {
      few = omega (arith, c.in-Some.ensures.there.1);
      same = c.add_number.ensures.same ∙ c.loop-id.invariant.same;
      numbered = subst (AreNumbered t keys (c.loop-id.number + 1)) (sym told.1) more;
    }

pub returns-clause-numbers : goal.returns-clause-numbers
returns-clause-numbers c =
    let t = c.args.parts.now in
    let all : c.loop-id.number ≡ length t.elements.parts = omega (arith, c.loop-id.invariant.few, c.in_default.ensures.past) in
    fixed-numbers t c.loop-id.keys.keys c.loop-id.numbers.items (subst (λ (n : ℕ). AreNumbered t c.loop-id.keys.keys n c.loop-id.numbers.items) all c.loop-id.invariant.numbered)
