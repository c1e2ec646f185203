-- Each text of an unrolled expression can be marked with names.
use Rattle.std.proofs.Common.{◌≡◌, ℕ, zero, suc, ◌+◌, ◌≤◌, ◌⊎◌, Bool, true, false, IsTrue, List, [], ◌∷◌, ◌++◌, None, Some, refl, sym, ap, ◌∙◌, inl, inr, arith, if◌then◌else◌}
use Rattle.xs_positions.specs.Tree.{Tree, one}
use Rattle.xs_positions.specs.PositionWords.{Spells, Rounds}
use Rattle.particle_models.specs.Particles.{Particle, Particles, term, sequence, choice, all_of, occurs, none, member, Path, Place, Mark}
use Rattle.particle_models.specs.Unrolled.{count, wordless, unrolled, unrolled_chain, unrolled_either}
use Rattle.particle_models.specs.Numbered.{AreNumbered, AreNumberedIn, Marks}
use Rattle.particle_models.proofs.Unrolling.{marks_append}

module _ {Name : Type 0} (place_of : ℕ → Place) (accepts : ℕ → Name → Bool) where
  -- each such text has names
  abbrev Lives : (List ℕ → Type 0) → Type 0
  Lives T = (text : List ℕ) → T text → (word : List (Mark Name)) × Marks place_of accepts text word

  chain_lives : (S T : List ℕ → Type 0) → Lives S → Lives T → Lives (λ text. (front back : List ℕ) × (text ≡ front ++ back) × S front × T back)
  chain_lives S T a b text h =
      let x = a h.0 h.3 in let y = b h.1 h.4 in
      (x.0 ++ y.0, rw h.2 (marks_append place_of accepts h.0 h.1 x.0 y.0 x.1 y.1))

  none_lives : Lives (λ text. text ≡ [])
  none_lives text e = ([], rw e tt)

  either_lives : (S T : List ℕ → Type 0) → Lives S → Lives T → Lives (λ text. S text ⊎ T text)
  either_lives S T a b text (inl h) = a text h
  either_lives S T a b text (inr h) = b text h

  rounds_live : (part : Tree) → Lives (Spells part) → (k j : ℕ) → Lives (Rounds (λ round front. Spells part front) k j)
  rounds_live part a zero j = none_lives
  rounds_live part a (suc k) j = chain_lives (Spells part) (Rounds (λ round front. Spells part front) k (suc j)) a (rounds_live part a k (suc j))

  never_lives : (part : Tree) (k : ℕ) (text : List ℕ) → k ≤ 0 → Rounds (λ round front. Spells part front) k 0 text → (word : List (Mark Name)) × Marks place_of accepts text word
  never_lives part zero text l h = none_lives text h
  never_lives part (suc k) text l h = absurd (omega arith)

  one_lives : (number next : ℕ) (path : Path) (b : Bool) → place_of next ≡ record { path = path; number = number } →
      (IsTrue b → (name : Name) × IsTrue (accepts number name)) → Lives (Spells (if b then one next else wordless next))
  one_lives number next path true is has = λ text h.
      let n = has refl in (record { place = record { path = path; number = number }; name = n.0 } ∷ [], rw (h.1 ∙ ap (λ (k : ℕ). k ∷ []) h.2) (sym is, rw is n.1, tt))
  one_lives number next path false is has = λ text h. absurd h.4.3

  module _ (inhabited : ℕ → Bool) (has : (number : ℕ) → IsTrue (inhabited number) → (name : Name) × IsTrue (accepts number name)) where
    mutual
      pub lives : (model : Particle) (path : Path) (next : ℕ) → AreNumbered place_of model path next → Lives (Spells (unrolled inhabited model next))
      lives (term number) path next is = one_lives number next path (inhabited number) is (has number)
      lives (sequence members) path next is = lives_in members path 0 next is
      lives (choice members) path next is = lives_one members path 0 next is
      lives (all_of members) path next is = λ text h. absurd h
      lives (occurs least None part) path next is = λ text h. rounds_live (unrolled inhabited part next) (lives part path next is) h.0 0 text h.2
      lives (occurs least (Some zero) part) path next is = λ text h. never_lives (unrolled inhabited part next) h.0 text h.1.1 h.2
      lives (occurs least (Some (suc most)) part) path next is = λ text h. rounds_live (unrolled inhabited part next) (lives part path next is) h.0 0 text h.2

      lives_in : (members : Particles) (path : Path) (i next : ℕ) → AreNumberedIn place_of members path i next → Lives (Spells (unrolled_chain inhabited members next))
      lives_in none path i next is = none_lives
      lives_in (member first rest) path i next is =
          chain_lives (Spells (unrolled inhabited first next)) (Spells (unrolled_chain inhabited rest (next + count first)))
          (lives first (path ++ i ∷ []) next is.0) (lives_in rest path (suc i) (next + count first) is.1)

      lives_one : (members : Particles) (path : Path) (i next : ℕ) → AreNumberedIn place_of members path i next → Lives (Spells (unrolled_either inhabited members next))
      lives_one none path i next is = λ text h. absurd h
      lives_one (member first rest) path i next is =
          either_lives (Spells (unrolled inhabited first next)) (Spells (unrolled_either inhabited rest (next + count first)))
          (lives first (path ++ i ∷ []) next is.0) (lives_one rest path (suc i) (next + count first) is.1)
