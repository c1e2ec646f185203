-- The words of an all within particles that come at most once.
use Rattle.std.proofs.Common.{◌≡◌, ℕ, zero, suc, ◌≤◌, ◌==◌, ◌||◌, ◌⊎◌, Bool, true, false, IsTrue, List, [], ◌∷◌, ◌++◌, refl, sym, ap, subst, ◌∙◌, inl, inr, arith, append-nil, eqb-true}
use Rattle.std.specs.List.{All, list_any}
use Rattle.std.proofs.lemmas.Bool.{false≢true}
use Rattle.std.proofs.lemmas.List.Elements.{All-head, All-tail}
use Rattle.particle_models.specs.Particles.{Mark}
use Rattle.particle_models.specs.Words.{Words, WordsOfEach}
use Rattle.content_models.specs.Shape.{particles_of, all_within}
use Rattle.content_models.specs.declared.member.AllMember.{AllMember}

-- one of the particles around it may be left out
abbrev pub may_miss : List ℕ → Bool
may_miss outer = list_any (λ least. least == 0) outer

module _ {Name : Type 0} (accepts : ℕ → Name → Bool) (members : List AllMember) where
  abbrev Inner : List (Mark Name) → Type 0
  Inner word = WordsOfEach accepts (particles_of members) [] 0 word

  missed_more : (least : ℕ) (outer : List ℕ) → IsTrue (may_miss outer) → IsTrue (may_miss (least ∷ outer))
  missed_more least outer t = by (least == 0)
    where
      by : (b : Bool) → IsTrue (b || may_miss outer)
      by true = refl
      by false = t

  pub within_words : (outer : List ℕ) (word : List (Mark Name)) → Words accepts (all_within outer members) [] word → (IsTrue (may_miss outer) × (word ≡ [])) ⊎ Inner word
  within_words [] word h = inr h
  within_words (least ∷ outer) word (zero, allows, e) = inl ((let z : least ≡ 0 = (let a = allows.0 in omega arith) in rw z refl), e)
  within_words (least ∷ outer) word (suc zero, allows, (front, back, e, w, f)) =
      let is : word ≡ front = e ∙ (ap (λ xs. front ++ xs) f ∙ append-nil front) in
      by is (within_words outer front w)
    where
      by : word ≡ front → (IsTrue (may_miss outer) × (front ≡ [])) ⊎ Inner front → (IsTrue (may_miss (least ∷ outer)) × (word ≡ [])) ⊎ Inner word
      by is (inl h) = inl (missed_more least outer h.0, is ∙ h.1)
      by is (inr h) = inr (subst Inner (sym is) h)
  within_words (least ∷ outer) word (suc (suc count), allows, times) = absurd (let a = allows.1 in omega arith)

  pub words_within : (outer : List ℕ) (word : List (Mark Name)) → All (λ least. least ≤ 1) outer → (IsTrue (may_miss outer) × (word ≡ [])) ⊎ Inner word → Words accepts (all_within outer members) [] word
  words_within [] word once (inl h) = absurd (false≢true h.0)
  words_within [] word once (inr h) = h
  words_within (least ∷ outer) word once (inr h) =
      (1, (All-head (λ k. k ≤ 1) least outer once, omega arith), (word, [], sym (append-nil word), words_within outer word (All-tail (λ k. k ≤ 1) least outer once) (inr h), refl))
  words_within (least ∷ outer) word once (inl h) = by (λ t. words_within outer word (All-tail (λ k. k ≤ 1) least outer once) (inl (t, h.1))) (least == 0) refl
    where
      by : (IsTrue (may_miss outer) → Words accepts (all_within outer members) [] word) → (b : Bool) → (least == 0) ≡ b → Words accepts (all_within (least ∷ outer) members) [] word
      by inner true e = let z : least ≡ 0 = eqb-true least 0 e in (0, (omega arith, omega arith), h.1)
      by inner false e =
          let t : IsTrue (may_miss outer) = rw e at h.0 in
          (1, (All-head (λ k. k ≤ 1) least outer once, omega arith), (word, [], sym (append-nil word), inner t, refl))
