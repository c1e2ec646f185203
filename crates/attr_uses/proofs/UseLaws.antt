-- Uses that are one, and lists of them.
use Rattle.std.proofs.Common.{◌≡◌, ℕ, Bool, true, false, ◌==◌, List, [], ◌∷◌, filter, refl, sym, ap, ◌∙◌}
use Rattle.std.specs.Prelude.{if◌then◌else◌}
use Rattle.std.proofs.lemmas.Bool.{and_parts, eqb-true, true≢false}
use Rattle.attr_uses.specs.Entries.{same_holder, same_use}
use Rattle.attr_uses.specs.declared.entry.UseAt.{UseAt}
use Rattle.attr_uses.specs.declared.entry.UseHolder.{UseHolder}
use Rattle.attr_uses.specs.declared.entry.UseHolder.TheVariants.{Complex as OfType, AttrGroup as OfGroup}

same_holder-is : (a b : UseHolder) → same_holder a b ≡ true → a ≡ b
same_holder-is (OfType a) (OfType b) e = ap OfType (eqb-true a b e)
same_holder-is (OfType a) (OfGroup b) e = absurd (true≢false (sym e))
same_holder-is (OfGroup a) (OfType b) e = absurd (true≢false (sym e))
same_holder-is (OfGroup a) (OfGroup b) e = ap OfGroup (eqb-true a b e)

abbrev written_at : UseHolder → ℕ → UseAt
written_at holder place = record { holder = holder; place = place }

pub same_use-is : (a b : UseAt) → same_use a b ≡ true → a ≡ b
same_use-is a b e =
    let parts = and_parts (a.place == b.place) (same_holder a.holder b.holder) e in
    ap (λ h. written_at h a.place) (same_holder-is a.holder b.holder parts.1) ∙ ap (written_at b.holder) (eqb-true a.place b.place parts.0)

-- two filters, of which the second tells among what the first keeps
module _ (h p q : UseAt → Bool) (same : (u : UseAt) → h u ≡ true → p u ≡ q u) where
  kept : (u : UseAt) (us : List UseAt) (x : Bool) → h u ≡ x → filter h (filter p us) ≡ filter q (filter h us) →
      filter h (if p u then u ∷ filter p us else filter p us) ≡ filter q (if x then u ∷ filter h us else filter h us)
  kept u us true e rest = of (p u) (q u) (same u e)
    where
      of : (y z : Bool) → y ≡ z → filter h (if y then u ∷ filter p us else filter p us) ≡ (if z then u ∷ filter q (filter h us) else filter q (filter h us))
      of true true s = rw e (ap (λ vs. u ∷ vs) rest)
      of true false s = absurd (true≢false s)
      of false true s = absurd (true≢false (sym s))
      of false false s = rest
  kept u us false e rest = of (p u)
    where
      of : (y : Bool) → filter h (if y then u ∷ filter p us else filter p us) ≡ filter q (filter h us)
      of true = rw e rest
      of false = rest

  pub filters-swap : (us : List UseAt) → filter h (filter p us) ≡ filter q (filter h us)
  filters-swap [] = refl
  filters-swap (u ∷ us) = kept u us (h u) refl (filters-swap us)

pub filter-all : (p : UseAt → Bool) → ((u : UseAt) → p u ≡ true) → (us : List UseAt) → filter p us ≡ us
filter-all p all [] = refl
filter-all p all (u ∷ us) = rw (all u) (ap (λ vs. u ∷ vs) (filter-all p all us))

pub filter-none : (p : UseAt → Bool) → ((u : UseAt) → p u ≡ false) → (us : List UseAt) → filter p us ≡ []
filter-none p none [] = refl
filter-none p none (u ∷ us) = rw (none u) (filter-none p none us)

pub filters-const : (h p : UseAt → Bool) (k : Bool) → ((u : UseAt) → h u ≡ true → p u ≡ k) → (us : List UseAt) → filter h (filter p us) ≡ (if k then filter h us else [])
filters-const h p true same us = filters-swap h p (λ u. true) same us ∙ filter-all (λ u. true) (λ u. refl) (filter h us)
filters-const h p false same us = filters-swap h p (λ u. false) same us ∙ filter-none (λ u. false) (λ u. refl) (filter h us)
