use Rattle.std.proofs.Common.{◌≡◌, ◌∷◌, ◌++◌, [], ap, ◌∙◌, subst, arith}
use Rattle.type_derivation.proofs.SpreadLaws.{IsSpread, left, spread-begins, steps, spread-ends, empty}
use Rattle.type_derivation.proofs.within.Within.of.Goals as goal

pub loop-of-init : goal.loop-of-init
loop-of-init c =
    let nothing = c.in_ok-within.ensures in
    let of : c.within.inside.base ≡ c.args.base = ap (λ m. m.base) c.within.view_is ∙ nothing.of in
    let todo : c.push.new.self.items ≡ c.args.base ∷ [] = c.in_ok-push.ensures.items ∙ ap (λ l. l ++ c.within.inside.base ∷ []) c.new-todo.ensures.items ∙ ap (λ b. b ∷ []) of in
    (nothing.of, rw todo (spread-begins c.args.parts.now c.args.base c.in_ok-within.within c.requires.there nothing))

pub loop-of-smaller : goal.loop-of-smaller
loop-of-smaller c =
    let before : IsSpread c.args.parts.now c.args.base c.loop-of.within (c.pop.new.self.items ++ c.in-Some.of ∷ []) = subst (IsSpread c.args.parts.now c.args.base c.loop-of.within) c.in-Some.ensures.items c.loop-of.invariant.1 in
    let step = steps c.args.parts.now c.requires.ranked c.args.base c.loop-of.within c.pop.new.self.items c.in-Some.of c.spread.new.self c.spread.new.todo.items before c.spread.ensures.base c.in_ok-spread.ensures.simples c.in_ok-spread.ensures.builtins c.in_ok-spread.ensures.todo in
    omega (arith, step.fewer, ap (left c.args.parts.now c.loop-of.within) c.in-Some.ensures.items)

pub loop-of-preserved : goal.loop-of-preserved
loop-of-preserved c =
    let before : IsSpread c.args.parts.now c.args.base c.loop-of.within (c.pop.new.self.items ++ c.in-Some.of ∷ []) = subst (IsSpread c.args.parts.now c.args.base c.loop-of.within) c.in-Some.ensures.items c.loop-of.invariant.1 in
    let step = steps c.args.parts.now c.requires.ranked c.args.base c.loop-of.within c.pop.new.self.items c.in-Some.of c.spread.new.self c.spread.new.todo.items before c.spread.ensures.base c.in_ok-spread.ensures.simples c.in_ok-spread.ensures.builtins c.in_ok-spread.ensures.todo in
    (c.spread.ensures.base ∙ c.loop-of.invariant.0, step.spread)

pub returns-clause-within : goal.returns-clause-within
returns-clause-within c =
    let none : c.loop-of.todo.items ≡ [] = empty c.loop-of.todo.items (omega (arith, c.loop-of.todo.ok.0, c.in_default.ensures.cases.0)) in
    spread-ends c.args.parts.now c.args.base c.loop-of.within c.requires.ranked c.requires.there c.loop-of.invariant.0 (rw none at c.loop-of.invariant.1)
