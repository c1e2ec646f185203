-- Terms by number, and names along them.
use Rattle.std.specs.Prelude.{◌≡◌, ℕ, zero, suc, ◌+◌, Bool, IsTrue, List, [], ◌∷◌, ◌++◌, Option, Some, None, ⊤}
use Rattle.particle_models.specs.Particles.{Particle, Particles, term, sequence, choice, all_of, occurs, none, member, Path, Place, Mark}
use Rattle.particle_models.specs.Unrolled.{count}

-- of a part with these bounds
abbrev pub UnlessNever : Option ℕ → Type 0 → Type 0
UnlessNever None P = P
UnlessNever (Some zero) P = ⊤
UnlessNever (Some (suc most)) P = P

module _ (place_of : ℕ → Place) where
  abbrev mutual
    -- these are the places of the terms of the model, from this number on
    pub AreNumbered : Particle → Path → ℕ → Type 0
    AreNumbered (term number) path next = place_of next ≡ record { path = path; number = number }
    AreNumbered (sequence members) path next = AreNumberedIn members path 0 next
    AreNumbered (choice members) path next = AreNumberedIn members path 0 next
    AreNumbered (all_of members) path next = ⊤
    AreNumbered (occurs least most part) path next = UnlessNever most (AreNumbered part path next)

    pub AreNumberedIn : Particles → Path → ℕ → ℕ → Type 0
    AreNumberedIn none path i next = ⊤
    AreNumberedIn (member first rest) path i next =
        AreNumbered first (path ++ i ∷ []) next × AreNumberedIn rest path (suc i) (next + count first)

  module _ {Name : Type 0} (accepts : ℕ → Name → Bool) where
    -- the terms of these numbers accept the names in turn, and the names are marked with their places
    abbrev pub Marks : List ℕ → List (Mark Name) → Type 0
    Marks [] [] = ⊤
    Marks [] (mark ∷ word) = ⊥
    Marks (k ∷ text) [] = ⊥
    Marks (k ∷ text) (mark ∷ word) = (mark.place ≡ place_of k) × IsTrue (accepts (place_of k).number mark.name) × Marks text word
