use Rattle.std.proofs.Common.{◌<◌, refl, sym, subst, ◌∙◌}
use Rattle.derive_restriction.specs.Given.{AreTypes}
use Rattle.derive_restriction.specs.Uses.{IsFoundBefore, numbers_left}
use Rattle.derive_restriction.proofs.UseLaws.{none-before, before-more, unlike-smaller}
use Rattle.derive_restriction.proofs.uses.uses_code.Goals as goal

pub loop-next-init : goal.loop-next-init
loop-next-init c = record {
  found = λ ids value also s u. none-before c.args.set.now.parts.now c.args.set.now.names.now value also c.next_unlike-next.result (c.next_unlike-next.ensures.next c.args.set.now.parts.now ids value also s u);
  same = refl;
}

pub loop-next-smaller : goal.loop-next-smaller
loop-next-smaller c =
    let t = c.args.set.now.parts.now in
    let w = c.requires.tables in
    let inv = subst (λ o. IsFoundBefore t c.args.set.now.names.now w.1 w.2 o c.loop-next.best) c.in-Some.is (c.loop-next.invariant.found w.0 w.1 w.2 w.3 w.4) in
    subst (λ o. numbers_left c.next_after-next.result < numbers_left o) (sym c.in-Some.is)
    (unlike-smaller t w.1 w.2 c.in-Some.name c.next_after-next.result inv.0 (c.next_after-next.ensures.next t w.0 w.1 w.2 w.3 w.4))

pub code_at-requires-clause-types : goal.code_at-requires-clause-types
code_at-requires-clause-types c = subst (AreTypes c.args.set.now.parts.now) (sym c.loop-next.invariant.same) c.requires.types

pub loop-next-preserved : goal.loop-next-preserved
loop-next-preserved c =
    let t = c.args.set.now.parts.now in
    let names = c.args.set.now.names.now in
    record {
      found = λ ids value also s u.
          before-more t names value also c.in-Some.name c.loop-next.best c.in_ok-found.found c.earlier-best.result c.next_after-next.result c.earlier-best.ensures
          (subst (λ o. IsFoundBefore t names value also o c.loop-next.best) c.in-Some.is (c.loop-next.invariant.found ids value also s u))
          (c.in_ok-found.ensures.first ids value also s u) (c.next_after-next.ensures.next t ids value also s u);
      same = c.code_at.ensures.same ∙ c.loop-next.invariant.same;
    }

pub returns : goal.returns
returns c = record {
  first = λ ids value also s u.
      subst (λ o. IsFoundBefore c.args.set.now.parts.now c.args.set.now.names.now value also o c.loop-next.best) c.in_default.is (c.loop-next.invariant.found ids value also s u);
  same = c.loop-next.invariant.same;
}
