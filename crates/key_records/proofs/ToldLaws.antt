-- At which elements other things are in the tables, one change after another.
use Rattle.std.proofs.Common.{◌≡◌, ℕ, ◌+◌, ◌*◌, List, [], ◌∷◌, ◌++◌, inl, inr, Result, Ok, Err, refl, sym, ◌∙◌, subst}
use Rattle.std.specs.Prelude.{OnOk}
use Rattle.simple_values.specs.declared.key.Key.{Key}
use Rattle.identity_tables.specs.KeyTables.{Tables, IsOneMoreTuple}
use Rattle.identity_constraints.specs.Counting.{Has, is_seen}
use Rattle.key_records.specs.Tables.{KeyTuple, for_key, AreTold, IsAlikeBut}
use Rattle.key_records.proofs.CarriedEntryLaws.{own_kept, said_others, own_others, said_kept}

pub has-left : (m : ℕ) (xs ys : List ℕ) → Has m xs → Has m (xs ++ ys)
has-left m [] ys h = absurd h
has-left m (x ∷ xs) ys h = elim h [ inl e ↦ inl e | inr later ↦ inr (has-left m xs ys later) ]

pub has-last : (m at : ℕ) (xs : List ℕ) → at ≡ m → Has m (xs ++ at ∷ [])
has-last m at [] e = inl e
has-last m at (x ∷ xs) e = inr (has-last m at xs e)

module _ (old new : Tables) (at k : ℕ) (tuple : List Key) where
  pub alike-said : IsOneMoreTuple old new at (2 * k + 1) tuple → IsAlikeBut at (for_key k tuple) old new
  alike-said grown = λ m y off. let own = own_kept old new at k tuple grown m y in let said = said_others old new at k tuple grown m y off in λ i. is_seen (own i) (said i)

  pub alike-own : IsOneMoreTuple old new at (2 * k) tuple → IsAlikeBut at (for_key k tuple) old new
  alike-own grown = λ m y off. let own = own_others old new at k tuple grown m y off in let said = said_kept old new at k tuple grown m y in λ i. is_seen (own i) (said i)

pub turned : (at : ℕ) (x : KeyTuple) (old new : Tables) → IsAlikeBut at x new old → IsAlikeBut at x old new
turned at x old new alike = λ m y off. sym (alike m y off)

pub alike-said-ok : {X E : Type 0} (result : Result X E) (old new : Tables) (at k : ℕ) (tuple made : List Key) → made ≡ tuple → OnOk result (IsOneMoreTuple old new at (2 * k + 1) made) →
    OnOk result (IsAlikeBut at (for_key k tuple) old new)
alike-said-ok (Ok x) old new at k tuple made cloned grown = alike-said old new at k tuple (subst (IsOneMoreTuple old new at (2 * k + 1)) cloned grown)
alike-said-ok (Err e) old new at k tuple made cloned grown = tt

-- one element more is told
pub told-one : (x : KeyTuple) (old new : Tables) (at : ℕ) (before after : List ℕ) → after ≡ before ++ at ∷ [] → IsAlikeBut at x old new → AreTold x old new before after
told-one x old new at before after pushed alike = record {
  still = λ m h. subst (Has m) (sym pushed) (has-left m before (at ∷ []) h);
  alike = λ m y off. alike m y (λ e. off (subst (Has m) (sym pushed) (has-last m at before e)));
}

pub told-none : (x : KeyTuple) (old : Tables) (before : List ℕ) → AreTold x old old before before
told-none x old before = record { still = λ m h. h; alike = λ m y off. refl }

pub told-both : (x : KeyTuple) (old middle new : Tables) (before then after : List ℕ) → AreTold x old middle before then → AreTold x middle new then after → AreTold x old new before after
told-both x old middle new before then after first second = record {
  still = λ m h. second.still m (first.still m h);
  alike = λ m y off. second.alike m y off ∙ first.alike m y (λ h. off (second.still m h));
}

pub told-ok : {X E : Type 0} (result : Result X E) (x : KeyTuple) (old middle new : Tables) (before then after : List ℕ) → AreTold x old middle before then → OnOk result (AreTold x middle new then after) →
    OnOk result (AreTold x old new before after)
told-ok (Ok r) x old middle new before then after first second = told-both x old middle new before then after first second
told-ok (Err e) x old middle new before then after first second = tt
