use Rattle.std.proofs.Common.{ℕ, List, subst}
use Rattle.kept_next.specs.Held.{place_of}
use Rattle.kept_next.specs.Place.{ListPlace, AreAround}
use Rattle.kept_next.proofs.Places.{place-around}
use Rattle.kept_next.proofs.asked.AroundAtAround.symbols.Goals as goal

pub returns-clause-around : goal.returns-clause-around
returns-clause-around c =
    subst (λ (v : ListPlace). (before : List ℕ) × (behind : List ℕ) × AreAround v before behind) c.self.view_is (place-around (place_of c.self.inside) c.self.invariant)
