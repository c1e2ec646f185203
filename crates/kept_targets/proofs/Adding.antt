-- Elements put behind others, with those below them.
use Rattle.std.proofs.Common.{◌≡◌, ◌⊎◌, ◌+◌, ◌-◌, ◌<◌, ◌≤◌, ℕ, zero, suc, true, List, [], ◌∷◌, ◌++◌, Option, None, Some, inl, inr, refl, sym, ap, ◌∙◌, subst, arith}
use Rattle.std.specs.Prelude.{slice_get}
use Rattle.std.specs.Option.{option_and_then}
use Rattle.std.proofs.lemmas.Bool.{cases_eq}
use Rattle.std.proofs.lemmas.Option.{none-some, same_Some}
use Rattle.xs_names.specs.Names.{NameTable}
use Rattle.tree_rows.specs.Forest.{Document}
use Rattle.xs_components.specs.Tables.{Tables}
use Rattle.doc_nodes.specs.Nodes.{Nodes, Has, node, depth_by, is_element_at, element_children}
use Rattle.doc_changes.specs.Held.{parent_at}
use Rattle.doc_changes.specs.Stands.{StandsFor}
use Rattle.child_lists.specs.from_kept_forgetting.Below.{IsWithin, upwards}
use Rattle.child_lists.proofs.from_kept_forgetting.Depths.{element-depth}
use Rattle.child_lists.proofs.from_kept_forgetting.Placed.{child-place, has-at, parent-element}
use Rattle.child_lists.specs.from_kept_records.Slots.{KeptSlots}
use Rattle.kept_targets.specs.Moved.{Adds, IsLookedAt, IsLookedAt as looked}
use Rattle.kept_targets.specs.declared.keys.ElementSign.{ElementSign}
use Rattle.kept_targets.proofs.Among.{has-either, has-left, has-right}
use Rattle.kept_targets.proofs.Links.{child-up, parent-lower}

-- ---- what is added

module _ (ns : Nodes) where
  pub adds-same : (xs : List ℕ) (roots : ℕ → Type 0) → Adds ns xs xs roots
  adds-same xs roots = record { still = λ m h. h; only = λ m h. inl h }

  pub adds-one : (xs : List ℕ) (n : ℕ) → is_element_at ns n ≡ true → Adds ns xs (xs ++ n ∷ []) (λ m. m ≡ n)
  adds-one xs n is = record {
    still = λ m h. has-left m xs (n ∷ []) h;
    only = λ m h. elim (has-either m xs (n ∷ []) h) [
      | inl k ↦ inl k
      | inr k ↦ elim k [ inl e ↦ inr (subst (λ (q : ℕ). is_element_at ns q ≡ true) e is, inl (sym e)) | inr none ↦ absurd none ]
    ];
  }

  module _ (xs ys zs : List ℕ) (one two : ℕ → Type 0) (first : Adds ns xs ys one) (second : Adds ns ys zs two) (from : (m : ℕ) → two m → one m ⊎ ((p : ℕ) × (parent_at ns m ≡ Some p) × Has p ys)) where
    abbrev IsFrom : ℕ → Type 0
    IsFrom m = one m ⊎ ((p : ℕ) × (parent_at ns m ≡ Some p) × Has p zs)

    later : (m : ℕ) → one m ⊎ ((p : ℕ) × (parent_at ns m ≡ Some p) × Has p ys) → IsFrom m
    later m (inl root) = inl root
    later m (inr up) = inr (up.0, up.1, second.still up.0 up.2)

    last : (m : ℕ) → two m ⊎ ((p : ℕ) × (parent_at ns m ≡ Some p) × Has p zs) → IsFrom m
    last m (inl root) = later m (from m root)
    last m (inr up) = inr up

    pub adds-then : Adds ns xs zs one
    adds-then = record {
      still = λ m h. second.still m (first.still m h);
      only = λ m h. elim (second.only m h) [
        | inl k ↦ elim (first.only m k) [ inl old ↦ inl old | inr new ↦ inr (new.0, later m new.1) ]
        | inr new ↦ inr (new.0, last m new.1)
      ];
    }

-- ---- places

pub place-before : (xs : List ℕ) (j i x : ℕ) → slice_get xs j ≡ None → slice_get xs i ≡ Some x → i < j
place-before [] j i x none f = absurd (none-some x f)
place-before (y ∷ ys) zero i x none f = absurd (none-some y (sym none))
place-before (y ∷ ys) (suc j) zero x none f = omega arith
place-before (y ∷ ys) (suc j) (suc i) x none f = let l = place-before ys j i x none f in omega (arith, l)

pub has-place : (xs : List ℕ) (x : ℕ) → Has x xs → (place : ℕ) × (slice_get xs place ≡ Some x)
has-place [] x h = absurd h
has-place (y ∷ ys) x h = elim h [ inl e ↦ (0, ap Some e) | inr later ↦ let r = has-place ys x later in (suc r.0, r.1) ]

-- so many levels upwards and one more, by the last but one
record EndsAt (ns : Nodes) (levels m n : ℕ) : Type 0 where
  pub last : ℕ
  pub there : upwards ns levels m ≡ Some last
  pub up : parent_at ns last ≡ Some n

ends-at : (ns : Nodes) (levels m n : ℕ) → upwards ns (suc levels) m ≡ Some n → EndsAt ns levels m n
ends-at ns zero m n e = by (parent_at ns m) refl e
  where
    by : (o : Option ℕ) → parent_at ns m ≡ o → option_and_then (upwards ns zero) o ≡ Some n → EndsAt ns zero m n
    by None q f = absurd (none-some n f)
    by (Some p) q f = record { last = m; there = refl; up = q ∙ f }
ends-at ns (suc levels) m n e = by (parent_at ns m) refl e (λ p f. ends-at ns levels p n f)
  where
    by : (o : Option ℕ) → parent_at ns m ≡ o → option_and_then (upwards ns (suc levels)) o ≡ Some n → ((p : ℕ) → upwards ns (suc levels) p ≡ Some n → EndsAt ns levels p n) → EndsAt ns (suc levels) m n
    by None q f on = absurd (none-some n f)
    by (Some p) q f on = let h = on p f in record { last = h.last; there = ap (option_and_then (upwards ns levels)) q ∙ h.there; up = h.up }

-- all elements at and below the child elements up to a place are there
abbrev pub AreBelowUpTo : Nodes → ℕ → List ℕ → ℕ → Type 0
AreBelowUpTo ns n numbers place = (i child m : ℕ) → i < place → slice_get (element_children ns n) i ≡ Some child → is_element_at ns m ≡ true → IsWithin ns child m → Has m numbers

module _ (t : NameTable) (ns : Nodes) (d : Document) (z : StandsFor t ns d) where
  pub element-up : (levels m x : ℕ) → upwards ns levels m ≡ Some x → is_element_at ns m ≡ true → is_element_at ns x ≡ true
  element-up zero m x e is = subst (λ (y : ℕ). is_element_at ns y ≡ true) (same_Some m x e) is
  element-up (suc levels) m x e is = let h = ends-at ns levels m x e in parent-element t ns d z h.last x h.up

  module _ (n : ℕ) (element : is_element_at ns n ≡ true) where
    -- a child element is at a greater depth
    pub child-lower : (place child : ℕ) → slice_get (element_children ns n) place ≡ Some child → 130 - depth_by (node ns child) < 130 - depth_by (node ns n)
    child-lower place child e =
        let up = child-up ns z.links n child (has-at (element_children ns n) place child e) in
        let deeper = parent-lower ns z.links child n up.0 in
        let most : depth_by (node ns n) ≤ 128 = element-depth t ns d z n element in
        omega (arith, deeper, most)

    pub child-there : (place child : ℕ) → slice_get (element_children ns n) place ≡ Some child → (parent_at ns child ≡ Some n) × (is_element_at ns child ≡ true)
    child-there place child e = child-up ns z.links n child (has-at (element_children ns n) place child e)

  pub below-more : (n place child : ℕ) (old new : List ℕ) → slice_get (element_children ns n) place ≡ Some child → ((m : ℕ) → Has m old → Has m new)
      → ((m : ℕ) → is_element_at ns m ≡ true → IsWithin ns child m → Has m new) → AreBelowUpTo ns n old place → AreBelowUpTo ns n new (place + 1)
  below-more n place child old new e still all done i x m l f is within =
      elim (cases_eq i place) [
        | inl q ↦ all m is (subst (λ (y : ℕ). IsWithin ns y m) (same_Some x child (sym f ∙ ap (slice_get (element_children ns n)) q ∙ e)) within)
        | inr other ↦ still m (done i x m (omega (arith, l, other)) f is within)
      ]

  pub below-all : (n place : ℕ) (numbers : List ℕ) → slice_get (element_children ns n) place ≡ None → Has n numbers → AreBelowUpTo ns n numbers place → (m : ℕ) → is_element_at ns m ≡ true → IsWithin ns n m → Has m numbers
  below-all n place numbers ended own done m is within = by within.0 within.1
    where
      by : (levels : ℕ) → upwards ns levels m ≡ Some n → Has m numbers
      by zero e = subst (λ (q : ℕ). Has q numbers) (sym (same_Some m n e)) own
      by (suc levels) e =
          let h = ends-at ns levels m n e in
          let at = child-place ns z.links h.last n h.up (element-up levels m h.last h.there is) in
          done at.0 h.last m (place-before (element_children ns n) place at.0 h.last ended at.1) at.1 is (levels, h.there)

-- ---- elements that are looked at

module _ (t : Tables) (ns : Nodes) (ks : KeptSlots) (was : ℕ → Option ElementSign) where
  pub looked-more : (one other : List ℕ) → ((m : ℕ) → Has m one → Has m other) → (n : ℕ) → IsLookedAt t ns ks was one n → IsLookedAt t ns ks was other n
  looked-more one other still n (looked.same x e) = looked.same x e
  looked-more one other still n (looked.steady x a b has before after steady below) =
      looked.steady x a b (still x has) before after steady (λ c h. looked-more one other still c (below c h))
  looked-more one other still n (looked.whole x all) = looked.whole x (λ m is within. still m (all m is within))

  -- so are the child elements up to a place
  abbrev pub AreLookedUpTo : ℕ → List ℕ → ℕ → Type 0
  AreLookedUpTo n moved place = (i child : ℕ) → i < place → slice_get (element_children ns n) i ≡ Some child → IsLookedAt t ns ks was moved child

  pub looked-next : (n place child : ℕ) (old new : List ℕ) → slice_get (element_children ns n) place ≡ Some child → ((m : ℕ) → Has m old → Has m new)
      → IsLookedAt t ns ks was new child → AreLookedUpTo n old place → AreLookedUpTo n new (place + 1)
  looked-next n place child old new e still own done i x l f =
      elim (cases_eq i place) [
        | inl q ↦ subst (λ (y : ℕ). IsLookedAt t ns ks was new y) (sym (same_Some x child (sym f ∙ ap (slice_get (element_children ns n)) q ∙ e))) own
        | inr other ↦ looked-more old new still x (done i x (omega (arith, l, other)) f)
      ]

  pub looked-all : (n place : ℕ) (moved : List ℕ) → slice_get (element_children ns n) place ≡ None → AreLookedUpTo n moved place → (c : ℕ) → Has c (element_children ns n) → IsLookedAt t ns ks was moved c
  looked-all n place moved ended done c h =
      let at = has-place (element_children ns n) c h in
      done at.0 c (place-before (element_children ns n) place at.0 c ended at.1) at.1

-- a child element that is added below its parent, or as one of the roots
pub child-root : (ns : Nodes) (n child : ℕ) (numbers : List ℕ) → Has child (element_children ns n) → (m : ℕ) → m ≡ child → Has m (element_children ns n) ⊎ ((p : ℕ) × (parent_at ns m ≡ Some p) × Has p numbers)
child-root ns n child numbers h m e = inl (subst (λ (x : ℕ). Has x (element_children ns n)) (sym e) h)

pub child-under : (ns : Nodes) (n child : ℕ) (numbers : List ℕ) → parent_at ns child ≡ Some n → Has n numbers → (m : ℕ) → m ≡ child → (m ≡ n) ⊎ ((p : ℕ) × (parent_at ns m ≡ Some p) × Has p numbers)
child-under ns n child numbers up own m e = inr (n, ap (parent_at ns) e ∙ up, own)

pub has-pushed-last : (n : ℕ) (xs : List ℕ) → Has n (xs ++ n ∷ [])
has-pushed-last n xs = has-right n xs (n ∷ []) (inl refl)

-- by more roots
pub adds-wider : (ns : Nodes) (xs ys : List ℕ) (one two : ℕ → Type 0) → ((m : ℕ) → one m → two m) → Adds ns xs ys one → Adds ns xs ys two
adds-wider ns xs ys one two wider adds = record {
  still = adds.still;
  only = λ m h. elim (adds.only m h) [ inl old ↦ inl old | inr new ↦ inr (new.0, elim new.1 [ inl root ↦ inl (wider m root) | inr up ↦ inr up ]) ];
}
