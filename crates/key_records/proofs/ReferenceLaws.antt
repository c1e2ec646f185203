-- References, one constraint more.
use Rattle.std.proofs.Common.{◌≡◌, ◌⊎◌, ℕ, ◌<◌, ◌^◌, ◌==◌, ◌++◌, ◌∷◌, List, [], length, Bool, true, false, cond, if◌then◌else◌, nat_eq, inl, inr, Option, None, Some, refl, sym, ap, subst, ◌∙◌, arith}
use Rattle.std.specs.Prelude.{slice_get, not}
use Rattle.std.specs.Option.{option_and_then, IfSome}
use Rattle.std.specs.Map.{lookup}
use Rattle.std.specs.declared.vec.Vec.{Vec}
use Rattle.std.specs.declared.alloc.Global.{Global}
use Rattle.std.proofs.lemmas.Bool.{eqb-true, eq-eqb}
use Rattle.std.proofs.lemmas.Bool.Decides.{nat_tests}
use Rattle.xs_names.proofs.NumberingLaws.{slice_get-push}
use Rattle.identity_constraints.specs.Counting.{Has}
use Rattle.key_records.proofs.ToldLaws.{has-left, has-last}
use Rattle.key_records.specs.References.{AreReferences, IsOneMoreKeyref, refers, key_of, keyrefs_of, items_of, has_any}
use Rattle.key_records.specs.declared.references.References.{References}

none-some : (key : ℕ) → None ≡ Some key → ⊥
none-some key e = cc

abbrev joined : Option (Option ℕ) → Option ℕ
joined found = option_and_then (λ (o : Option ℕ). o) found

-- the key of a constraint among others and one behind them
key-more : (xs : List (Option ℕ)) (x : Option ℕ) (k key : ℕ) → joined (slice_get (xs ++ x ∷ []) k) ≡ Some key → (joined (slice_get xs k) ≡ Some key) ⊎ ((k ≡ length xs) × (x ≡ Some key))
key-more xs x k key is = by (slice_get (xs ++ x ∷ []) k) refl is
  where
    by : (found : Option (Option ℕ)) → slice_get (xs ++ x ∷ []) k ≡ found → joined found ≡ Some key → (joined (slice_get xs k) ≡ Some key) ⊎ ((k ≡ length xs) × (x ≡ Some key))
    by None e h = absurd (none-some key h)
    by (Some o) e h = elim (slice_get-push xs x k o e) [ inl there ↦ inl (ap joined there ∙ h) | inr last ↦ inr (last.0, sym last.1 ∙ h) ]

pub no_references : (r : References) → refers r ≡ [] → AreReferences r
no_references r e = record {
  all_there = λ keyref key is. absurd (never keyref key is);
  few = λ keyref key is. absurd (never keyref key is);
}
  where
    never : (keyref key : ℕ) → key_of r keyref ≡ Some key → ⊥
    never keyref key is = none-some key (sym (ap (λ (xs : List (Option ℕ)). joined (slice_get xs keyref)) e) ∙ is)

pub pushed : (old new : References) (key : Option ℕ) → AreReferences old → refers new ≡ refers old ++ key ∷ []
    → ((k keyref : ℕ) → Has keyref (keyrefs_of old k) → Has keyref (keyrefs_of new k))
    → ((k : ℕ) → key ≡ Some k → Has (length (refers old)) (keyrefs_of new k) × (length (refers old) < 2 ^ 31) × (k < 2 ^ 31)) → AreReferences new
pushed old new key before put kept last = record {
  all_there = λ keyref k is. elim (told keyref k is) [
    | inl there ↦ kept k keyref (before.all_there keyref k there)
    | inr end ↦ subst (λ n. Has n (keyrefs_of new k)) (sym end.0) (last k end.1).0
  ];
  few = λ keyref k is. elim (told keyref k is) [
    | inl there ↦ before.few keyref k there
    | inr end ↦ (subst (λ n. n < 2 ^ 31) (sym end.0) (last k end.1).1, (last k end.1).2)
  ];
}
  where
    told : (keyref k : ℕ) → key_of new keyref ≡ Some k → (key_of old keyref ≡ Some k) ⊎ ((keyref ≡ length (refers old)) × (key ≡ Some k))
    told keyref k is = key-more (refers old) key keyref k (ap (λ (xs : List (Option ℕ)). joined (slice_get xs keyref)) (sym put) ∙ is)

-- another constraint that is no keyref
pub pushed-other : (old new : References) → AreReferences old → refers new ≡ refers old ++ None ∷ [] → ((k : ℕ) → keyrefs_of new k ≡ keyrefs_of old k) → AreReferences new
pushed-other old new before put same = pushed old new None before put (λ k keyref h. subst (Has keyref) (sym (same k)) h) (λ k e. absurd (none-some k e))

module _ (old new : References) (key keyref : ℕ) (more : IsOneMoreKeyref old new key keyref) where
  keyrefs-kept : (k other : ℕ) → Has other (keyrefs_of old k) → Has other (keyrefs_of new k)
  keyrefs-kept k other h = subst (Has other) (sym (more k)) (by (nat_eq key k))
    where
      by : (b : Bool) → Has other (if b then keyrefs_of old k ++ keyref ∷ [] else keyrefs_of old k)
      by true = has-left other (keyrefs_of old k) (keyref ∷ []) h
      by false = h

  keyref-there : Has keyref (keyrefs_of new key)
  keyref-there =
      subst (Has keyref) (sym (more key ∙ ap (λ (b : Bool). if b then keyrefs_of old key ++ keyref ∷ [] else keyrefs_of old key) (eq-eqb key key refl)))
      (has-last keyref keyref (keyrefs_of old key) refl)

some-is : (a b : ℕ) → Some a ≡ Some b → a ≡ b
some-is a b e = cc

-- another keyref
pub pushed-keyref : (old middle new : References) (key number : ℕ) → AreReferences old → number ≡ length (refers old) → number < 2 ^ 31 → key < 2 ^ 31 → IsOneMoreKeyref old middle key number
    → refers new ≡ refers old ++ Some key ∷ [] → ((k : ℕ) → keyrefs_of new k ≡ keyrefs_of middle k) → AreReferences new
pushed-keyref old middle new key number before at few fewer more put same =
    pushed old new (Some key) before put
    (λ k keyref h. subst (Has keyref) (sym (same k)) (keyrefs-kept old middle key number more k keyref h))
    (λ k e. (
      subst (Has (length (refers old))) (sym (same k)) (subst (λ n. Has n (keyrefs_of middle k)) at (subst (λ j. Has number (keyrefs_of middle j)) (some-is key k e) (keyref-there old middle key number more))),
      subst (λ n. n < 2 ^ 31) at few,
      subst (λ n. n < 2 ^ 31) (some-is key k e) fewer,
    ))

-- from what a map's call says
pub one-more-keyref : (m n : List (ℕ × Vec ℕ Global)) (key keyref : ℕ) (v : Vec ℕ Global) → v.items ≡ items_of (lookup (nat_eq key) m) ++ keyref ∷ []
    → ((q : ℕ) → lookup (nat_eq q) n ≡ cond (nat_eq key q) (Some v) (lookup (nat_eq q) m))
    → (k : ℕ) → items_of (lookup (nat_eq k) n) ≡ (if nat_eq key k then items_of (lookup (nat_eq k) m) ++ keyref ∷ [] else items_of (lookup (nat_eq k) m))
one-more-keyref m n key keyref v is updates k = ap items_of (updates k) ∙ by (nat_eq key k) refl
  where
    by : (b : Bool) → nat_eq key k ≡ b → items_of (cond b (Some v) (lookup (nat_eq k) m)) ≡ (if b then items_of (lookup (nat_eq k) m) ++ keyref ∷ [] else items_of (lookup (nat_eq k) m))
    by true e = is ∙ ap (λ (j : ℕ). items_of (lookup (nat_eq j) m) ++ keyref ∷ []) (eqb-true key k e)
    by false e = refl

pub referred-is : (xs : List ℕ) (b : Bool) → b ≡ (length xs == 0) → not b ≡ has_any xs
referred-is [] b e = ap not e
referred-is (x ∷ xs) b e = ap not (e ∙ some)
  where
    some : (length (x ∷ xs) == 0) ≡ false
    some = grind (arith, nat_tests)

-- what is known of a key that is found
pub few-there : (r : References) (keyref : ℕ) (found : Option ℕ) → AreReferences r → found ≡ key_of r keyref → IfSome found (λ key. (keyref < 2 ^ 31) × (key < 2 ^ 31))
few-there r keyref None sound e = tt
few-there r keyref (Some key) sound e = sound.few keyref key (sym e)
