-- An element and those above it, one after another.
use Rattle.std.proofs.Common.{◌≡◌, ◌⊎◌, ◌+◌, ◌<◌, ℕ, zero, suc, true, List, [], ◌∷◌, ◌++◌, Option, None, Some, inl, inr, refl, sym, ap, ◌∙◌, subst, append_assoc, append-nil, arith}
use Rattle.std.specs.Prelude.{unwrap_or}
use Rattle.std.specs.Option.{option_and_then}
use Rattle.std.proofs.lemmas.Option.{none-some, same_Some}
use Rattle.identity_constraints.specs.Seen.{KeyElement, KeyForest}
use Rattle.what_is_found.specs.Identity.{seen_element}
use Rattle.identity_constraints.specs.Targets.{constraints_of}
use Rattle.xpath_subset.specs.declared.paths.IdentityPaths.{IdentityPaths}
use Rattle.path_walk.specs.inside.Walk.{reached}
use Rattle.scope_targets.specs.Kin.{Kin, AreAbove}
use Rattle.scope_targets.specs.Targetings.{Targeting, targetings_for, targetings_up}
use Rattle.xs_components.specs.Tables.{Tables}
use Rattle.xs_names.specs.Names.{NameTable}
use Rattle.kept_targets.proofs.Around.{above-one}
use Rattle.tree_assess.specs.Entries.{entry_of}
use Rattle.scope_targets.specs.Kept.{targets_of}
use Rattle.compiled_schema.specs.declared.compiled.Compiled.{Compiled}
use Rattle.doc_nodes.specs.Nodes.{Nodes, IsSound, Has, node, depth_by, is_element_at}
use Rattle.doc_changes.specs.Held.{parent_at}
use Rattle.child_lists.specs.from_kept_forgetting.Below.{IsWithin, upwards}
use Rattle.child_lists.specs.from_kept_records.KeptElement.{KeptElement}
use Rattle.child_lists.specs.from_kept_records.Slots.{KeptSlots, IsKept, blank, entry_at}
use Rattle.kept_targets.specs.Touched.{IsNoted, IsTouching, scopes_at}
use Rattle.kept_targets.specs.declared.above.Touched.{Touched}
use Rattle.kept_targets.specs.declared.keys.TargetKeys.{TargetKeys}
use Rattle.kept_targets.proofs.Links.{parent-lower}

-- how far up it goes on
abbrev pub level : Nodes → Option ℕ → ℕ
level ns None = 0
level ns (Some n) = 1 + depth_by (node ns n)

pub level-less : (ns : Nodes) → IsSound ns → (n : ℕ) (next : Option ℕ) → next ≡ Some n → level ns (parent_at ns n) < level ns next
level-less ns sound n next e = by (parent_at ns n) refl
  where
    now : level ns next ≡ 1 + depth_by (node ns n)
    now = ap (level ns) e

    by : (o : Option ℕ) → parent_at ns n ≡ o → level ns o < level ns next
    by None none = omega (arith, now)
    by (Some p) up = let deeper = parent-lower ns sound n p up in omega (arith, now, deeper)

pub level-at : (ns : Nodes) → IsSound ns → (n : ℕ) (next : Option ℕ) → next ≡ Some n → (parent : Option ℕ) → parent ≡ parent_at ns n → level ns parent < level ns next
level-at ns sound n next e parent is = subst (λ (o : Option ℕ). level ns o < level ns next) (sym is) (level-less ns sound n next e)

-- ---- what was noted

pub noted-none : (free : Type 0) (n : ℕ) (xs : List ℕ) → free → IsNoted free n xs xs
noted-none free n xs is = record { here = inr is; still = λ m h. h; only = λ m h. inl h }

has-push : (n : ℕ) (xs : List ℕ) → Has n (xs ++ n ∷ [])
has-push n [] = inl refl
has-push n (x ∷ xs) = inr (has-push n xs)

has-pushed : (m n : ℕ) (xs : List ℕ) → Has m xs → Has m (xs ++ n ∷ [])
has-pushed m n [] h = absurd h
has-pushed m n (x ∷ xs) h = elim h [ inl e ↦ inl e | inr later ↦ inr (has-pushed m n xs later) ]

from-pushed : (m n : ℕ) (xs : List ℕ) → Has m (xs ++ n ∷ []) → Has m xs ⊎ (m ≡ n)
from-pushed m n [] h = elim h [ inl e ↦ inr (sym e) | inr none ↦ absurd none ]
from-pushed m n (x ∷ xs) h =
    elim h [ inl e ↦ inl (inl e) | inr later ↦ elim (from-pushed m n xs later) [ inl k ↦ inl (inr k) | inr e ↦ inr e ] ]

pub noted-here : (free : Type 0) (n : ℕ) (xs ys : List ℕ) → ys ≡ xs ++ n ∷ [] → IsNoted free n xs ys
noted-here free n xs ys e =
    subst (IsNoted free n xs) (sym e) (record { here = inl (has-push n xs); still = λ m h. has-pushed m n xs h; only = λ m h. from-pushed m n xs h })

-- ---- those above

-- some are still above
abbrev pub IsStillAbove : Nodes → Option ℕ → ℕ → Type 0
IsStillAbove ns None m = ⊥
IsStillAbove ns (Some p) m = IsWithin ns m p

up-or : (ns : Nodes) (m own : ℕ) → IsWithin ns m own → (own ≡ m) ⊎ IsStillAbove ns (parent_at ns own) m
up-or ns m own within = by within.0 within.1
  where
    rest : (levels : ℕ) (o : Option ℕ) → option_and_then (upwards ns levels) o ≡ Some m → IsStillAbove ns o m
    rest levels None e = absurd (none-some m e)
    rest levels (Some p) e = (levels, e)

    by : (levels : ℕ) → upwards ns levels own ≡ Some m → (own ≡ m) ⊎ IsStillAbove ns (parent_at ns own) m
    by zero e = inl (same_Some own m e)
    by (suc levels) e = inr (rest levels (parent_at ns own) e)

module _ (c : Compiled) (ns : Nodes) (ks : KeptSlots) (keys : TargetKeys) (n : ℕ) where
  pub record IsTouchingBut (next : Option ℕ) (old new : Touched) : Type 0 where
    pub targets : (m : ℕ) → IsWithin ns m n → (Has m new.targets.items ⊎ (targets_of keys.counted m ≡ [])) ⊎ IsStillAbove ns next m
    pub scopes : (m : ℕ) → IsWithin ns m n → (Has m new.scopes.items ⊎ (scopes_at c ks m ≡ [])) ⊎ IsStillAbove ns next m
    pub still_targets : (m : ℕ) → Has m old.targets.items → Has m new.targets.items
    pub still_scopes : (m : ℕ) → Has m old.scopes.items → Has m new.scopes.items
    pub only_targets : (m : ℕ) → Has m new.targets.items → Has m old.targets.items ⊎ (is_element_at ns m ≡ true)
    pub only_scopes : (m : ℕ) → Has m new.scopes.items → Has m old.scopes.items ⊎ (is_element_at ns m ≡ true)
    pub element : (p : ℕ) → next ≡ Some p → is_element_at ns p ≡ true

  pub touching-start : (t : Touched) → is_element_at ns n ≡ true → IsTouchingBut (Some n) t t
  touching-start t is = record {
    targets = λ m within. inr within;
    scopes = λ m within. inr within;
    still_targets = λ m h. h;
    still_scopes = λ m h. h;
    only_targets = λ m h. inl h;
    only_scopes = λ m h. inl h;
    element = λ p e. subst (λ (q : ℕ). is_element_at ns q ≡ true) (same_Some n p e) is;
  }

  module _ (next : Option ℕ) (own : ℕ) (is : next ≡ Some own) (old mid new : Touched) (before : IsTouchingBut next old mid) (target : IsNoted (targets_of keys.counted own ≡ []) own mid.targets.items new.targets.items)
      (scope : IsNoted (scopes_at c ks own ≡ []) own mid.scopes.items new.scopes.items) (above : (p : ℕ) → parent_at ns own ≡ Some p → is_element_at ns p ≡ true) where
    own-element : is_element_at ns own ≡ true
    own-element = before.element own is

    more : (free : ℕ → Type 0) (xs ys : List ℕ) → IsNoted (free own) own xs ys → (m : ℕ) → (Has m xs ⊎ free m) ⊎ IsStillAbove ns next m → (Has m ys ⊎ free m) ⊎ IsStillAbove ns (parent_at ns own) m
    more free xs ys noted m so =
        elim so [
          | inl done ↦ inl (elim done [ inl h ↦ inl (noted.still m h) | inr out ↦ inr out ])
          | inr up ↦ elim (up-or ns m own (subst (λ (o : Option ℕ). IsStillAbove ns o m) is up)) [
            | inl e ↦ inl (subst (λ (q : ℕ). Has q ys ⊎ free q) e noted.here)
            | inr later ↦ inr later
          ]
        ]

    only : (first xs ys : List ℕ) (free : Type 0) → IsNoted free own xs ys → ((m : ℕ) → Has m xs → Has m first ⊎ (is_element_at ns m ≡ true)) → (m : ℕ) → Has m ys → Has m first ⊎ (is_element_at ns m ≡ true)
    only first xs ys free noted so m h =
        elim (noted.only m h) [ inl k ↦ so m k | inr e ↦ inr (subst (λ (q : ℕ). is_element_at ns q ≡ true) (sym e) own-element) ]

    pub touching-next : IsTouchingBut (parent_at ns own) old new
    touching-next = record {
      targets = λ m within. more (λ q. targets_of keys.counted q ≡ []) mid.targets.items new.targets.items target m (before.targets m within);
      scopes = λ m within. more (λ q. scopes_at c ks q ≡ []) mid.scopes.items new.scopes.items scope m (before.scopes m within);
      still_targets = λ m h. target.still m (before.still_targets m h);
      still_scopes = λ m h. scope.still m (before.still_scopes m h);
      only_targets = only old.targets.items mid.targets.items new.targets.items (targets_of keys.counted own ≡ []) target before.only_targets;
      only_scopes = only old.scopes.items mid.scopes.items new.scopes.items (scopes_at c ks own ≡ []) scope before.only_scopes;
      element = above;
    }

  ended : (free : Type 0) (next : Option ℕ) (m : ℕ) → next ≡ None → free ⊎ IsStillAbove ns next m → free
  ended free next m e so = elim so [ inl done ↦ done | inr up ↦ absurd (subst (λ (o : Option ℕ). IsStillAbove ns o m) e up) ]

  pub touching-end : (next : Option ℕ) (old new : Touched) → next ≡ None → IsTouchingBut next old new → IsTouching c ns ks keys n old new
  touching-end next old new e before = record {
    targets = λ m within. ended (Has m new.targets.items ⊎ (targets_of keys.counted m ≡ [])) next m e (before.targets m within);
    scopes = λ m within. ended (Has m new.scopes.items ⊎ (scopes_at c ks m ≡ [])) next m e (before.scopes m within);
    still_targets = before.still_targets;
    still_scopes = before.still_scopes;
    only_targets = before.only_targets;
    only_scopes = before.only_scopes;
  }

  -- by what was there before alone
  pub touching-from : (first old new : Touched) → first.targets.items ≡ old.targets.items → first.scopes.items ≡ old.scopes.items → IsTouching c ns ks keys n old new → IsTouching c ns ks keys n first new
  touching-from first old new targets scopes is = record {
    targets = is.targets;
    scopes = is.scopes;
    still_targets = λ m h. is.still_targets m (subst (Has m) targets h);
    still_scopes = λ m h. is.still_scopes m (subst (Has m) scopes h);
    only_targets = λ m h. subst (λ (xs : List ℕ). Has m xs ⊎ (is_element_at ns m ≡ true)) (sym targets) (is.only_targets m h);
    only_scopes = λ m h. subst (λ (xs : List ℕ). Has m xs ⊎ (is_element_at ns m ≡ true)) (sym scopes) (is.only_scopes m h);
  }

-- ---- what is seen of them

pub kept-seen : (ks : KeptSlots) (n : ℕ) (k : KeptElement) → IsKept ks n k → seen_element (entry_of k.found) ≡ seen_element (entry_at ks n)
kept-seen ks n k is = ap (λ (o : Option KeptElement). seen_element (entry_of (unwrap_or o blank).found)) (sym is)

-- ---- the targets that an element is, one scope after another

module _ (names : NameTable) (t : Tables) (identities : List IdentityPaths) (v : Kin) (own : KeyElement) (below : KeyForest) (all : List KeyElement) where
  -- those that were found, with those of the scopes that are left
  abbrev pub IsFoundUpTo : Option ℕ → List ℕ → List Targeting → Type 0
  IsFoundUpTo next way found = (rest : List KeyElement) → AreAbove v next rest → found ++ targetings_up names t identities way own below rest ≡ targetings_up names t identities [] own below all

  pub found-next : (next : Option ℕ) (p : ℕ) → next ≡ Some p → (way longer : List ℕ) (found more : List Targeting) (s : KeyElement) → s ≡ v.seen p → longer ≡ s.name ∷ way
      → more ≡ found ++ targetings_for names t identities s.number (constraints_of t s) (reached way own below) → IsFoundUpTo next way found → IsFoundUpTo (v.parent p) longer more
  found-next next p is way longer found more s here longer_is more_is so rest are =
      let first = targetings_for names t identities s.number (constraints_of t s) (reached way own below) in
      (λ i. more_is i ++ targetings_up names t identities (longer_is i) own below rest)
      ∙ append_assoc found first (targetings_up names t identities (s.name ∷ way) own below rest)
      ∙ so (s ∷ rest) (subst (λ (o : Option ℕ). AreAbove v o (s ∷ rest)) (sym is) (here, are))

  pub found-end : (next : Option ℕ) (way : List ℕ) (found : List Targeting) → next ≡ None → IsFoundUpTo next way found → found ≡ targetings_up names t identities [] own below all
  found-end next way found e so = sym (append-nil found) ∙ so [] (subst (λ (o : Option ℕ). AreAbove v o []) (sym e) tt)

  pub found-start : (n : ℕ) (way : List ℕ) (found : List Targeting) → way ≡ [] → found ≡ [] → AreAbove v (Some n) all → IsFoundUpTo (Some n) way found
  found-start n way found no_way no_found are rest is =
      let same = above-one v (Some n) rest all is are in
      (λ i. no_found i ++ targetings_up names t identities (no_way i) own below (same i))
