-- States of a model are counted alike on each table of its positions.
use Rattle.std.proofs.Common.{◌≡◌, ℕ, ◌↔◌, Bool, IsTrue, List, [], slice_index, sym, subst}
use Rattle.std.specs.Prelude.{Contains, slice_index_or}
use Rattle.xs_positions.specs.Positions.{Table}
use Rattle.xs_positions.specs.PositionWords.{IsWord}
use Rattle.particle_models.specs.Particles.{Particle}
use Rattle.particle_models.specs.Unrolled.{unrolled, places}
use Rattle.particle_models.specs.Model.{blank}
use Rattle.particle_models.specs.Reach.{Reach}
use Rattle.content_automaton.specs.Terms.{ExpandedName}
use Rattle.content_automaton.specs.Counted.{IsReachSetOf, IsStateCountOf}

module _ (accepts : ℕ → ExpandedName → Bool) (inhabited : ℕ → Bool) (model : Particle) where
  -- a set that is reached, by the symbols of positions alone
  abbrev IsReached : List ℕ → List ExpandedName → List ℕ → Type 0
  IsReached set names symbols =
      (q : ℕ) → Contains set q ↔
      Reach (λ before p name. IsTrue (accepts (slice_index_or (places model []) (slice_index symbols p) blank).number name)) (IsWord (unrolled inhabited model 0) 0) names q

  set-moved : (u v : Table) → u.symbols ≡ v.symbols → (set : List ℕ) → IsReachSetOf accepts inhabited model u set → IsReachSetOf accepts inhabited model v set
  set-moved u v e set is = record {
    filled = is.filled;
    rises = is.rises;
    names = is.names;
    reached = subst (IsReached set is.names) e is.reached;
  }

  pub count-moved : (u v : Table) → u.symbols ≡ v.symbols → (count : ℕ) → IsStateCountOf accepts inhabited model u count → IsStateCountOf accepts inhabited model v count
  count-moved u v e count is = record {
    sets = is.sets;
    all = λ set. ((λ h. set-moved u v e set ((is.all set).0 h)), (λ h. (is.all set).1 (set-moved v u (sym e) set h)));
    different = is.different;
    counted = is.counted;
  }
