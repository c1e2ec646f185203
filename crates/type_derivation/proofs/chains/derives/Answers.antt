use Rattle.std.proofs.Common.{◌≡◌, rules, refl, sym, ◌∙◌, ap, subst}
use Rattle.component_tables.specs.declared.bases.BaseLine.{BaseLine}
use Rattle.type_derivation.specs.Chains.{Derives, same}
use Rattle.type_derivation.proofs.AlongLaws.{along-derives, derives-along, no-members}
use Rattle.type_derivation.proofs.chains.derives.Goals as goal

pub returns-then-eq : goal.returns-then-eq
returns-then-eq c =
    let equal : c.args.sub ≡ c.args.base = search rules in
    record { derives = ((λ _. subst (Derives c.args.parts.now c.args.excluded.now c.args.sub) equal (same c.args.sub)), (λ _. refl)) }

pub returns : goal.returns
returns c =
    let t = c.args.parts.now in
    let excluded = c.args.excluded.now in
    let none = no-members t c.requires.ranked c.args.bases.now c.requires.bases c.args.base (sym (c.is_union.ensures ∙ ap (λ (l : BaseLine). l.is_union) c.line.ensures) ∙ c.if-is_union.false) in
    record {
      derives = (
        (λ holds. along-derives t excluded c.args.sub c.args.base (c.derives_along.ensures.0 holds)),
        (λ d. c.derives_along.ensures.1 (derives-along t excluded c.args.sub c.args.base none d)),
      );
    }
