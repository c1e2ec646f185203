use Rattle.std.proofs.Common.{◌<◌, ◌∷◌, [], length, sym, ◌∙◌, subst}
use Rattle.std.proofs.lemmas.List.{get_or_default}
use Rattle.model_terms.specs.Symbols.{AreSymbolsBy}
use Rattle.kept_next.specs.declared.order.Symbol.{Symbol}
use Rattle.kept_next.specs.Held.{place_of}
use Rattle.kept_next.specs.Place.{ListPlace}
use Rattle.kept_next.proofs.Places.{place-symbol}
use Rattle.kept_next.proofs.asked.AroundAtAround.with.Goals as goal

pub with-requires-clause-symbol : goal.with-requires-clause-symbol
with-requires-clause-symbol g c =
    let low = subst (λ (v : ListPlace). c.args.symbol < length v.symbols) (sym c.self.view_is) c.requires.symbol in
    subst (λ (x : Symbol). AreSymbolsBy c.self.inside.automaton.now (x.number ∷ []))
    (get_or_default c.self.inside.symbols.items c.args.symbol _ c.index.result.now low ∙ sym c.index.ensures) (place-symbol (place_of c.self.inside) c.self.invariant c.args.symbol low)
