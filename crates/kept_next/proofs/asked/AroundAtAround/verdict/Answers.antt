use Rattle.std.proofs.Common.{◌≡◌, ℕ, List, subst}
use Rattle.model_lists.specs.Around.{LeadTo}
use Rattle.kept_next.specs.Words.{fit_by}
use Rattle.kept_next.specs.Place.{ListPlace}
use Rattle.kept_next.proofs.Places.{verdict-fits}
use Rattle.kept_next.proofs.asked.AroundAtAround.verdict.Goals as goal

pub returns : goal.returns
returns c =
    let tells = subst (λ (v : ListPlace). (symbols : List ℕ) → LeadTo v.automaton symbols c.args.state → c.fit_of.result ≡ fit_by v.automaton symbols) c.self.view_is c.fit_of.ensures in
    λ symbol l leads before behind around. verdict-fits c.args.self.now symbol c.args.state c.fit_of.result l leads tells before behind around
