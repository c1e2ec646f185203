-- The codes of an element by what is seen at and below it.
use Rattle.std.proofs.Common.{◌≡◌, ◌≤◌, ◌==◌, ◌++◌, ℕ, Bool, true, false, if◌then◌else◌, List, [], inl, inr, refl, sym, ap, ◌∙◌, subst, append-nil, arith}
use Rattle.std.specs.Prelude.{slice_get}
use Rattle.std.specs.List.{flat_map}
use Rattle.std.proofs.lemmas.Bool.{eq-eqb, ne_eqb}
use Rattle.xs_names.specs.Names.{NameTable}
use Rattle.xs_codes.specs.declared.fault.Found.{Found}
use Rattle.tree_rows.specs.Forest.{Forest, none, text, element}
use Rattle.tree_rows.specs.Whole.{times}
use Rattle.xs_components.specs.Tables.{Tables}
use Rattle.xpath_subset.specs.declared.paths.IdentityPaths.{IdentityPaths}
use Rattle.identity_constraints.specs.Seen.{KeyElement, KeyForest}
use Rattle.identity_constraints.specs.Targets.{constraints_of}
use Rattle.identity_constraints.specs.Satisfied.{codes_by, identity_codes, identity_at}
use Rattle.what_is_found.specs.Identity.{seen, seen_element}
use Rattle.assessment.specs.Local.{AreRead, HasElement, element_numbers}
use Rattle.scope_targets.specs.Kin.{AreSeen}
use Rattle.doc_nodes.specs.Nodes.{Nodes, element_children}
use Rattle.doc_readers.specs.Heads.{readers_of}
use Rattle.child_lists.specs.from_kept_records.Slots.{KeptSlots, entry_at}
use Rattle.child_lists.specs.from_kept_records.Found.{found_in}
use Rattle.kept_targets.specs.Kept.{kin_of}

abbrev weight : Bool → ℕ
weight b = if b then 1 else 0

-- without constraints there are no codes
pub no-codes : (names : NameTable) (t : Tables) (identities : List IdentityPaths) (own : KeyElement) (below : KeyForest) → constraints_of t own ≡ [] → identity_codes names t identities own below ≡ []
unfolding identity_codes
no-codes names t identities own below bare = ap (λ (ks : List ℕ). flat_map (λ (k : ℕ). codes_by names t identities k (slice_get t.constraints.parts k) own below) ks) bare

-- an element comes at least once
once : (n : ℕ) (f : Forest) → HasElement n f → 1 ≤ times n f
once n none h = absurd h
once n (text number chars next) h = let later = once n next h in omega (arith, later)
once n (element number name bindings attributes children next) h =
    elim h [
      | inl e ↦ let here : weight (number == n) ≡ 1 = ap weight (eq-eqb number n e) in omega (arith, here)
      | inr more ↦ elim more [
        | inl below ↦ let inner = once n children below in omega (arith, inner)
        | inr later ↦ let outer = once n next later in omega (arith, outer)
      ]
    ]

module _ (names : NameTable) (t : Tables) (identities : List IdentityPaths) (ns : Nodes) (ks : KeptSlots) where
  abbrev codes-in : ℕ → Forest → List Found
  codes-in n f = identity_at names t identities n (seen (found_in ns ks f))

  abbrev pub AreNumbered : Forest → Type 0
  AreNumbered f = (n : ℕ) → HasElement n f → (entry_at ks n).number ≡ n

  none-in : (n : ℕ) (f : Forest) → AreNumbered f → (HasElement n f → ⊥) → codes-in n f ≡ []
  none-in n none are out = refl
  none-in n (text number chars next) are out = none-in n next are out
  none-in n (element number name bindings attributes children next) are out =
      let off : ((entry_at ks number).number == n) ≡ false = ne_eqb (entry_at ks number).number n (λ e. out (inl (sym (are number (inl refl)) ∙ e))) in
      let one = none-in n children (λ m h. are m (inr (inl h))) (λ h. out (inr (inl h))) in
      let two = none-in n next (λ m h. are m (inr (inr h))) (λ h. out (inr (inr h))) in
      λ i. (if off i then identity_codes names t identities (seen_element (entry_at ks number)) (seen (found_in ns ks children)) else []) ++ (one i ++ two i)

  pub seen-numbers : (f : Forest) → AreRead (readers_of names ns) f → AreSeen (kin_of ns ks) (element_numbers f) (seen (found_in ns ks f))
  seen-numbers none r = tt
  seen-numbers (text number chars next) r = seen-numbers next r
  seen-numbers (element number name bindings attributes children next) r =
      (refl, (subst (λ (xs : List ℕ). AreSeen (kin_of ns ks) xs (seen (found_in ns ks children))) (sym r.0.children_are) (seen-numbers children r.1), seen-numbers next r.2))

  -- the codes at an element of the forest are those of what is seen at and below it
  pub record IsFoundAt (n : ℕ) (f : Forest) : Type 0 where
    pub below : KeyForest
    pub seen_is : AreSeen (kin_of ns ks) (element_children ns n) below
    pub codes : codes-in n f ≡ identity_codes names t identities (seen_element (entry_at ks n)) below

  pub found-at : (n : ℕ) (f : Forest) → AreRead (readers_of names ns) f → AreNumbered f → times n f ≤ 1 → HasElement n f → IsFoundAt n f
  found-at n none r are few h = absurd h
  found-at n (text number chars next) r are few h =
      let later = found-at n next r are (omega (arith, few)) h in record { below = later.below; seen_is = later.seen_is; codes = later.codes }
  found-at n (element number name bindings attributes children next) r are few h =
      elim h [
        | inl e ↦ own e
        | inr more ↦ elim more [
          | inl below ↦ inner below (found-at n children r.1 (λ m k. are m (inr (inl k))) (omega (arith, few)) below)
          | inr later ↦ outer later (found-at n next r.2 (λ m k. are m (inr (inr k))) (omega (arith, few)) later)
        ]
      ]
    where
      at-own : List Found
      at-own = identity_codes names t identities (seen_element (entry_at ks number)) (seen (found_in ns ks children))

      are-below : AreNumbered children
      are-below m k = are m (inr (inl k))

      are-behind : AreNumbered next
      are-behind m k = are m (inr (inr k))

      own : number ≡ n → IsFoundAt n (element number name bindings attributes children next)
      own e =
          let here : weight (number == n) ≡ 1 = ap weight (eq-eqb number n e) in
          let is : ((entry_at ks number).number == n) ≡ true = eq-eqb (entry_at ks number).number n (are number (inl refl) ∙ e) in
          let one = none-in n children are-below (λ k. let more = once n children k in omega (arith, here, more, few)) in
          let two = none-in n next are-behind (λ k. let more = once n next k in omega (arith, here, more, few)) in
          record {
            below = seen (found_in ns ks children);
            seen_is =
                subst (λ (m : ℕ). AreSeen (kin_of ns ks) (element_children ns m) (seen (found_in ns ks children))) e
                (subst (λ (xs : List ℕ). AreSeen (kin_of ns ks) xs (seen (found_in ns ks children))) (sym r.0.children_are) (seen-numbers children r.1));
            codes =
                (λ i. (if is i then at-own else []) ++ (one i ++ two i)) ∙ append-nil at-own
                ∙ ap (λ (m : ℕ). identity_codes names t identities (seen_element (entry_at ks m)) (seen (found_in ns ks children))) e;
          }

      off-own : (number ≡ n → ⊥) → ((entry_at ks number).number == n) ≡ false
      off-own off = ne_eqb (entry_at ks number).number n (λ e. off (sym (are number (inl refl)) ∙ e))

      inner : HasElement n children → IsFoundAt n children → IsFoundAt n (element number name bindings attributes children next)
      inner k found =
          let more = once n children k in
          let off = off-own (λ e. let here : weight (number == n) ≡ 1 = ap weight (eq-eqb number n e) in omega (arith, here, more, few)) in
          let two = none-in n next are-behind (λ q. let again = once n next q in omega (arith, again, more, few)) in
          record {
            below = found.below;
            seen_is = found.seen_is;
            codes = (λ i. (if off i then at-own else []) ++ (codes-in n children ++ two i)) ∙ append-nil (codes-in n children) ∙ found.codes;
          }

      outer : HasElement n next → IsFoundAt n next → IsFoundAt n (element number name bindings attributes children next)
      outer k found =
          let more = once n next k in
          let off = off-own (λ e. let here : weight (number == n) ≡ 1 = ap weight (eq-eqb number n e) in omega (arith, here, more, few)) in
          let one = none-in n children are-below (λ q. let again = once n children q in omega (arith, again, more, few)) in
          record {
            below = found.below;
            seen_is = found.seen_is;
            codes = (λ i. (if off i then at-own else []) ++ (one i ++ codes-in n next)) ∙ found.codes;
          }
