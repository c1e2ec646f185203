-- The positions in which names may end are those that prefixes of words reach, and what that says of states.
use Rattle.std.proofs.Common.{◌≡◌, ℕ, ◌<◌, ◌↔◌, Bool, IsTrue, List, [], ◌∷◌, ◌++◌, arith, append_assoc}
use Rattle.xs_positions.specs.Tree.{Tree, size}
use Rattle.xs_positions.specs.PositionWords.{IsWord}
use Rattle.xs_positions.specs.Positions.{Table, ArePositionsOf}
use Rattle.particle_models.specs.Reach.{Reads, Reach}
use Rattle.particle_models.proofs.Reaching.{reach_first, reach_next}
use Rattle.content_automaton.specs.Moves.{Ends, IsWithin}

no_one : (f : List ℕ) (p : ℕ) → f ++ p ∷ [] ≡ [] → ⊥
no_one [] p e = cc
no_one (x ∷ f) p e = cc

module _ (tree : Tree) (table : Table) (are : ArePositionsOf tree table) (takes : ℕ → ℕ → Bool) where
  abbrev Takes : List ℕ → ℕ → ℕ → Type 0
  Takes before p n = IsTrue (takes p n)

  abbrev Word : List ℕ → Type 0
  Word = IsWord tree 0

  -- the names, in order
  abbrev pub turned : List ℕ → List ℕ
  turned [] = []
  turned (n ∷ before) = turned before ++ n ∷ []

  reach_inside : (names : List ℕ) (p : ℕ) → Reach Takes Word names p → p < size tree
  reach_inside names p h = are.within p (h.0, h.1, h.2)

  pub ends_reach : (before : List ℕ) (q : ℕ) → Ends table takes before q ↔ Reach Takes Word (turned before) q
  ends_reach [] q = ((λ h. absurd h), (λ h. absurd (no_read h.0 h.3)))
    where
      no_read : (f : List ℕ) → Reads Takes [] (f ++ q ∷ []) [] → ⊥
      no_read [] r = r
      no_read (x ∷ f) r = r
  ends_reach (n ∷ []) q =
      let f = reach_first Takes Word q n in (
        (λ h. f.1 ((are.first q).0 h.0, h.1)),
        (λ h. let r = f.0 h in ((are.first q).1 r.0, r.1)),
      )
  ends_reach (n ∷ m ∷ before) q =
      let f = reach_next Takes Word are.exchange (turned (m ∷ before)) n q (no_one (turned before) m) in (
        (λ h. let r = (ends_reach (m ∷ before) h.0.0).0 h.0.1 in
            f.1 (h.0.0, r, (are.follow h.0.0 q (reach_inside (turned (m ∷ before)) h.0.0 r)).0 h.0.2, h.1)),
        (λ h. let r = f.0 h in
            ((r.0, (ends_reach (m ∷ before) r.0).1 r.1, (are.follow r.0 q (reach_inside (turned (m ∷ before)) r.0 r.1)).1 r.2), r.3)),
      )

  pub within_table : IsWithin table
  within_table = record {
    first = λ p c. (let b = (are.first p).0 c in let w = are.within p ([], b.0, b.1) in let n = are.count in omega arith);
    follow = λ p q l c. (
        let n = are.count in let b = (are.follow p q (omega arith)).0 c in
        let w = are.within q (b.0 ++ p ∷ [], b.1, rw append_assoc b.2) in omega arith);
  }
