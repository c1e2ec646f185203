-- What particles stand for, one after another.
use Rattle.std.proofs.Common.{◌≡◌, inl, inr, ℕ, ◌+◌, ◌<◌, ◌≤◌, List, [], ◌∷◌, ◌++◌, length, refl, sym, ap, ◌∙◌, arith}
use Rattle.std.specs.Prelude.{slice_index_or}
use Rattle.std.proofs.lemmas.Bool.{cases_eq, cases_lt}
use Rattle.std.proofs.lemmas.Option.{slice_get_past}
use Rattle.std.proofs.lemmas.List.{length_push, get_or_push, get_or_append_left, get_or_past}
use Rattle.xs_components.specs.Tables.{Tables}
use Rattle.derive_models.specs.Standing.{stands_in, stands_for, AreStanding}
use Rattle.derive_models.specs.Steps.{AreFirstStanding}

module _ (t : Tables) (members : List (List ℕ)) where
  pub standing-first : (all : List (List ℕ)) → all ≡ [] → AreFirstStanding t members 0 all
  standing-first all e = rw e (record { each = refl; right = λ p l. absurd (omega arith) })

  pub standing-more : (n id : ℕ) (of : List ℕ) (all new : List (List ℕ)) → id ≡ n → of ≡ stands_for t members id → new ≡ all ++ of ∷ [] → AreFirstStanding t members n all → AreFirstStanding t members (n + 1) new
  standing-more n id of all new at is e was = rw e (record {
    each = length_push all of ∙ ap (λ k. k + 1) was.each;
    right = right;
  })
    where
      right : (p : ℕ) → p < n + 1 → slice_index_or (all ++ of ∷ []) p [] ≡ stands_for t members p
      right p l = elim (cases_eq p n) [
        | inl same ↦ get_or_push all of [] p (was.each ∙ sym same) ∙ (is ∙ ap (stands_for t members) (at ∙ sym same))
        | inr differ ↦ get_or_append_left all (of ∷ []) [] p (let w = was.each in omega arith) ∙ was.right p (omega arith)
      ]

  pub standing-all : (n : ℕ) (all : List (List ℕ)) → n ≤ length t.particles.parts → length t.particles.parts ≤ n → AreFirstStanding t members n all → AreStanding t members all
  standing-all n all few past are p = elim (cases_lt p n) [
    | inl l ↦ are.right p l
    | inr l ↦ get_or_past all p [] (let e = are.each in omega arith) ∙ sym (ap (stands_in t members p) (slice_get_past t.particles.parts p (omega arith)))
  ]
