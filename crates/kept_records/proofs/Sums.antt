-- What is kept in sums is that of what is found.
use Rattle.std.proofs.Common.{◌≡◌, ℕ, ◌+◌, ◌≤◌, List, [], ◌∷◌, ◌++◌, Option, None, Some, cond, All, refl, sym, ap, ◌∙◌, subst, inl, inr, arith}
use Rattle.std.specs.Prelude.{sum_by, unwrap_or}
use Rattle.std.specs.List.{flat_map}
use Rattle.std.proofs.lemmas.Grind.{flat_map-append}
use Rattle.std.proofs.lemmas.List.Elements.{All-head, All-tail}
use Rattle.std.proofs.lemmas.List.Sums.{sum_by-cons, sum_by-append}
use Rattle.xs_names.specs.Names.{NameTable}
use Rattle.tree_rows.specs.Forest.{Forest, none, text, element}
use Rattle.tree_rows.specs.Whole.{HasRoot, times}
use Rattle.identity_tables.specs.Ids.{BorneAtom, ids, ids_in, references, references_in}
use Rattle.identity_tables.specs.Table.{is_borne, is_reference, IsTableOf}
use Rattle.assessment.specs.Assessment.{Entry, Assessed, nothing, entry, entries}
use Rattle.assessment.specs.Bearings.{Bearing, bearings, bearings_below, borne_of, borne_values}
use Rattle.assessment.specs.Local.{AreRead, HasElement, kept_entries, element_numbers}
use Rattle.tree_assess.specs.Entries.{entry_of}
use Rattle.session_model.specs.Asking.{entry_total, code_total}
use Rattle.kept_slots.specs.Elements.{element_sum}
use Rattle.kept_slots.specs.Elements as sums
use Rattle.kept_slots.proofs.ElementSums.{sums_are}
use Rattle.doc_nodes.specs.Nodes.{Nodes, element_children}
use Rattle.doc_readers.specs.Heads.{readers_of}
use Rattle.kept_slots.specs.Slots.{at, weigh, slot_sum}
use Rattle.kept_records.specs.declared.element.KeptElement.{KeptElement}
use Rattle.kept_records.specs.Slots.{KeptSlots, IsMade, blank, kept_at, entry_at}
use Rattle.kept_records.specs.Books.{codes_in, atoms_of, all_atoms}
use Rattle.kept_records.specs.Found.{read_as, found_in}
use Rattle.kept_records.proofs.Entries.{to-sums}

pub kept-is : (ks : KeptSlots) (n : ℕ) (k : KeptElement) → at ks n ≡ Some k → kept_at ks n ≡ k
kept-is ks n k e = ap (λ o. unwrap_or o blank) e

-- what is not made weighs nothing
module _ (weight : Option KeptElement → ℕ) (light : weight None ≡ 0) (ks : KeptSlots) (f : Forest) (made : (n : ℕ) → IsMade ks n → HasElement n f) where
  unmade : (n : ℕ) → (sums.HasElement n f → ⊥) → weight (at ks n) ≡ 0
  unmade n lacks = by (at ks n) refl
    where
      by : (o : Option KeptElement) → at ks n ≡ o → weight (at ks n) ≡ 0
      by None e = ap weight e ∙ light
      by (Some k) e = absurd (lacks (to-sums n f (made n (k, e))))

  pub over-elements : ((n : ℕ) → times n f ≤ 1) → sum_by weight ks ≡ element_sum (λ n. weight (at ks n)) f
  over-elements differ = sums_are weight None light f differ ks unmade

-- ---- the atoms of values, weighed so that lists weigh as their parts

abbrev pub own-weight : (List BorneAtom → ℕ) → KeptElement → ℕ
own-weight w k = w (atoms_of k.found)

pub all-atoms : (w : List BorneAtom → ℕ) → w [] ≡ 0 → ((xs ys : List BorneAtom) → w (xs ++ ys) ≡ w xs + w ys) → (xs : KeptSlots) → w (all_atoms xs) ≡ slot_sum (own-weight w) xs
all-atoms w nil plus [] = nil
all-atoms w nil plus (None ∷ xs) = let i = all-atoms w nil plus xs in let b = sum_by-cons (weigh (own-weight w)) None xs in omega (arith, i, b)
all-atoms w nil plus (Some k ∷ xs) =
    let a = plus (atoms_of k.found) (all_atoms xs) in let i = all-atoms w nil plus xs in let b = sum_by-cons (weigh (own-weight w)) (Some k) xs in omega (arith, a, i, b)

-- ---- how many codes there are

totals : (xs ys : List Entry) → code_total (xs ++ ys) ≡ code_total xs + code_total ys
totals [] ys = omega arith
totals (x ∷ xs) ys = let i = totals xs ys in omega (arith, i)

module _ (ns : Nodes) (ks : KeptSlots) where
  pub total-of : (f : Forest) → ((n : ℕ) → HasElement n f → IsMade ks n) → element_sum (λ n. weigh codes_in (at ks n)) f ≡ code_total (entries (found_in ns ks f))
  total-of none made = refl
  total-of (text number chars next) made = total-of next made
  total-of (element number name bindings attributes children next) made =
      let own = made number (inl refl) in
      let one : weigh codes_in (at ks number) ≡ entry_total (entry_at ks number) = ap (weigh codes_in) own.1 ∙ ap codes_in (sym (kept-is ks number own.0 own.1)) in
      let below = total-of children (λ n h. made n (inr (inl h))) in
      let later = total-of next (λ n h. made n (inr (inr h))) in
      let both = totals (entries (found_in ns ks children)) (entries (found_in ns ks next)) in
      omega (arith, one, below, later, both)

  module _ (w : List BorneAtom → ℕ) (nil : w [] ≡ 0) (plus : (xs ys : List BorneAtom) → w (xs ++ ys) ≡ w xs + w ys) where
    -- the atoms of an element, which this one bears
    borne-own : (n bearer : ℕ) → IsMade ks n → (kept_at ks n).found.bearer ≡ bearer → w (borne_of (record { bearer = bearer; own = entry_at ks n })) ≡ weigh (own-weight w) (at ks n)
    borne-own n bearer made is =
        let same = kept-is ks n made.0 made.1 in
        ap (λ m. w (borne_of (record { bearer = m; own = entry_at ks n }))) (sym is)
        ∙ ap (λ (x : KeptElement). w (borne_of (record { bearer = x.found.bearer; own = entry_of x.found }))) same
        ∙ ap (weigh (own-weight w)) (sym made.1)

    module _ (t : NameTable) (numbers : (n : ℕ) → IsMade ks n → (kept_at ks n).found.number ≡ n)
        (bearers : (n : ℕ) → IsMade ks n → All (λ m. (kept_at ks m).found.bearer ≡ n) (element_children ns n)) where
      abbrev weight : ℕ → ℕ
      weight n = weigh (own-weight w) (at ks n)

      abbrev IsBorneBy : ℕ → ℕ → Type 0
      IsBorneBy bearer m = (kept_at ks m).found.bearer ≡ bearer

      below-sum : (f : Forest) (parent : ℕ) → AreRead (readers_of t ns) f → ((n : ℕ) → HasElement n f → IsMade ks n) → All (IsBorneBy parent) (element_numbers f) →
          w (flat_map borne_of (bearings_below parent (found_in ns ks f))) ≡ element_sum weight f
      below-sum none parent r made all = nil
      below-sum (text number chars next) parent r made all = below-sum next parent r made all
      below-sum (element number name bindings attributes children next) parent r made all =
          let own = made number (inl refl) in
          let inner : List Bearing = bearings_below (entry_at ks number).number (found_in ns ks children) in
          let outer : List Bearing = bearings_below parent (found_in ns ks next) in
          let one = borne-own number parent own (All-head (IsBorneBy parent) number (element_numbers next) all) in
          let children-borne = subst (All (IsBorneBy number)) r.0.children_are (bearers number own) in
          let below : w (flat_map borne_of inner) ≡ element_sum weight children =
          ap (λ m. w (flat_map borne_of (bearings_below m (found_in ns ks children)))) (numbers number own)
          ∙ below-sum children number r.1 (λ n h. made n (inr (inl h))) children-borne in
          let later = below-sum next parent r.2 (λ n h. made n (inr (inr h))) (All-tail (IsBorneBy parent) number (element_numbers next) all) in
          let first = plus (borne_of (record { bearer = parent; own = entry_at ks number })) (flat_map borne_of (inner ++ outer)) in
          let apart = ap w (flat_map-append borne_of inner outer) ∙ plus (flat_map borne_of inner) (flat_map borne_of outer) in
          omega (arith, one, below, later, first, apart)

      root-sum : (f : Forest) → HasRoot f → AreRead (readers_of t ns) f → ((n : ℕ) → HasElement n f → IsMade ks n) → (kept_at ks 1).found.bearer ≡ 1 →
          w (borne_values (found_in ns ks f)) ≡ element_sum weight f
      root-sum none h r made top = absurd h
      root-sum (text number chars next) h r made top = absurd h
      root-sum (element number name bindings attributes children next) h r made top =
          let own = made number (inl refl) in
          let inner : List Bearing = bearings_below (entry_at ks number).number (found_in ns ks children) in
          let bearer : (kept_at ks number).found.bearer ≡ (entry_at ks number).number =
          subst (λ m. (kept_at ks m).found.bearer ≡ m) (sym h.0) top ∙ sym (numbers number own) in
          let one = borne-own number (entry_at ks number).number own bearer in
          let children-borne = subst (All (IsBorneBy number)) r.0.children_are (bearers number own) in
          let below : w (flat_map borne_of inner) ≡ element_sum weight children =
          ap (λ m. w (flat_map borne_of (bearings_below m (found_in ns ks children)))) (numbers number own)
          ∙ below-sum children number r.1 (λ n h. made n (inr (inl h))) children-borne in
          let none-later : w (flat_map borne_of (bearings (found_in ns ks next))) ≡ 0 = ap (λ g. w (flat_map borne_of (bearings (found_in ns ks g)))) h.1 ∙ nil in
          let none-summed : element_sum weight next ≡ 0 = ap (element_sum weight) h.1 in
          let first = plus (borne_of (record { bearer = (entry_at ks number).number; own = entry_at ks number })) (flat_map borne_of (inner ++ bearings (found_in ns ks next))) in
          let apart = ap w (flat_map-append borne_of inner (bearings (found_in ns ks next))) ∙ plus (flat_map borne_of inner) (flat_map borne_of (bearings (found_in ns ks next))) in
          omega (arith, one, below, none-later, none-summed, first, apart)

      pub atoms-are : (f : Forest) → HasRoot f → ((n : ℕ) → times n f ≤ 1) → AreRead (readers_of t ns) f → ((n : ℕ) → HasElement n f → IsMade ks n) → ((n : ℕ) → IsMade ks n → HasElement n f) →
          (kept_at ks 1).found.bearer ≡ 1 → w (all_atoms ks) ≡ w (borne_values (found_in ns ks f))
      atoms-are f root differ r made only top = all-atoms w nil plus ks ∙ over-elements (weigh (own-weight w)) refl ks f only differ ∙ sym (root-sum f root r made top)

-- ---- the IDs and the references

pub count-ids : (id : List ℕ) (bearer : ℕ) (xs ys : List BorneAtom) →
    sum_by (λ x. cond (is_borne id bearer x) 1 0) (ids (xs ++ ys)) ≡ sum_by (λ x. cond (is_borne id bearer x) 1 0) (ids xs) + sum_by (λ x. cond (is_borne id bearer x) 1 0) (ids ys)
count-ids id bearer xs ys = ap (sum_by (λ x. cond (is_borne id bearer x) 1 0)) (flat_map-append ids_in xs ys) ∙ sum_by-append (λ x. cond (is_borne id bearer x) 1 0) (ids xs) (ids ys)

pub count-references : (id : List ℕ) (xs ys : List BorneAtom) →
    sum_by (λ x. cond (is_reference id x) 1 0) (references (xs ++ ys)) ≡ sum_by (λ x. cond (is_reference id x) 1 0) (references xs) + sum_by (λ x. cond (is_reference id x) 1 0) (references ys)
count-references id xs ys = ap (sum_by (λ x. cond (is_reference id x) 1 0)) (flat_map-append references_in xs ys) ∙ sum_by-append (λ x. cond (is_reference id x) 1 0) (references xs) (references ys)
