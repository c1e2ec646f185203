-- Sums over what is kept, before and after one element is written.
use Rattle.std.proofs.Common.{◌≡◌, ℕ, ◌+◌, ◌<◌, List, [], ◌∷◌, ◌++◌, length, Option, None, Some, cond, refl, sym, ap, ◌∙◌, subst, inl, inr, arith}
use Rattle.std.specs.Prelude.{sum_by}
use Rattle.std.proofs.Math.ListN.{get_or-eq_default}
use Rattle.std.proofs.lemmas.Bool.{cases_eq, cases_lt}
use Rattle.std.proofs.lemmas.Option.{none-some}
use Rattle.identity_tables.specs.Entries.{IdEntries}
use Rattle.identity_tables.specs.Ids.{BorneAtom, ids, references}
use Rattle.identity_tables.specs.Table.{is_borne, is_reference, IsTableOf}
use Rattle.session_model.specs.Asking.{entry_total}
use Rattle.tree_assess.specs.Entries.{entry_of}
use Rattle.tree_assess.specs.declared.entry.ElementEntry.{ElementEntry}
use Rattle.kept_slots.specs.Slots.{at, Writes, Keeps, weigh, slot_sum}
use Rattle.kept_slots.proofs.Sums.{kept-sum, written-sum}
use Rattle.kept_records.specs.declared.element.KeptElement.{KeptElement}
use Rattle.kept_records.specs.Slots.{KeptSlots}
use Rattle.kept_records.specs.Books.{KeptView, IsBooked, codes_in, atoms_of, all_atoms}
use Rattle.kept_records.proofs.Sums.{own-weight, all-atoms, count-ids, count-references}

module _ (old new : KeptSlots) (n : ℕ) (k : KeptElement) where
  module _ (w : List BorneAtom → ℕ) (nil : w [] ≡ 0) (plus : (xs ys : List BorneAtom) → w (xs ++ ys) ≡ w xs + w ys) where
    abbrev weight : KeptElement → ℕ
    weight = own-weight w

    atoms-more : at old n ≡ None → Writes old new n (Some k) → w (all_atoms old ++ atoms_of k.found) ≡ w (all_atoms new)
    atoms-more free writes =
        let moved = written-sum weight n old new (Some k) writes in
        let none : weigh weight (at old n) ≡ 0 = ap (weigh weight) free in
        let a = all-atoms w nil plus old in
        let b = all-atoms w nil plus new in
        let both = plus (all_atoms old) (atoms_of k.found) in
        omega (arith, moved, none, a, b, both)

    atoms-less : at old n ≡ Some k → Writes old new n None → w (all_atoms old) ≡ w (atoms_of k.found ++ all_atoms new)
    atoms-less was writes =
        let moved = written-sum weight n old new None writes in
        let own : weigh weight (at old n) ≡ w (atoms_of k.found) = ap (weigh weight) was in
        let a = all-atoms w nil plus old in
        let b = all-atoms w nil plus new in
        let both = plus (atoms_of k.found) (all_atoms new) in
        omega (arith, moved, own, a, b, both)

  pub table-more : (table : IdEntries) → at old n ≡ None → Writes old new n (Some k) → IsTableOf table (all_atoms old ++ atoms_of k.found) → IsTableOf table (all_atoms new)
  table-more table free writes t = record {
    ids_are = λ id bearer. t.ids_are id bearer ∙ atoms-more (λ atoms. sum_by (λ x. cond (is_borne id bearer x) 1 0) (ids atoms)) refl (count-ids id bearer) free writes;
    references_are = λ id. t.references_are id ∙ atoms-more (λ atoms. sum_by (λ x. cond (is_reference id x) 1 0) (references atoms)) refl (count-references id) free writes;
  }

  pub table-less : (table : IdEntries) → at old n ≡ Some k → Writes old new n None → IsTableOf table (all_atoms old) → IsTableOf table (atoms_of k.found ++ all_atoms new)
  table-less table was writes t = record {
    ids_are = λ id bearer. t.ids_are id bearer ∙ atoms-less (λ atoms. sum_by (λ x. cond (is_borne id bearer x) 1 0) (ids atoms)) refl (count-ids id bearer) was writes;
    references_are = λ id. t.references_are id ∙ atoms-less (λ atoms. sum_by (λ x. cond (is_reference id x) 1 0) (references atoms)) refl (count-references id) was writes;
  }

  pub total-more : at old n ≡ None → Writes old new n (Some k) → slot_sum codes_in new ≡ slot_sum codes_in old + codes_in k
  total-more free writes =
      let moved = written-sum codes_in n old new (Some k) writes in let none : weigh codes_in (at old n) ≡ 0 = ap (weigh codes_in) free in omega (arith, moved, none)

  pub total-less : at old n ≡ Some k → Writes old new n None → slot_sum codes_in old ≡ slot_sum codes_in new + codes_in k
  total-less was writes =
      let moved = written-sum codes_in n old new None writes in let own : weigh codes_in (at old n) ≡ codes_in k = ap (weigh codes_in) was in omega (arith, moved, own)

-- ---- what is booked, before and after one element is written

pub keeps-writes : (old mid new : KeptSlots) (n : ℕ) (x : Option KeptElement) → Keeps old mid → Writes mid new n x → Writes old new n x
keeps-writes old mid new n x keeps writes = record { here = writes.here; others = λ m other. writes.others m other ∙ keeps m }

pub booked-more : (r after : KeptView) (n : ℕ) (k : KeptElement) → at r.slots n ≡ None → Writes r.slots after.slots n (Some k) → after.total ≡ r.total + codes_in k →
    ((atoms : List BorneAtom) → IsTableOf r.ids atoms → IsTableOf after.ids (atoms ++ atoms_of k.found)) → IsBooked r → IsBooked after
booked-more r after n k free writes total ids booked = record {
  total_is = total ∙ ap (λ t. t + codes_in k) booked.total_is ∙ sym (total-more r.slots after.slots n k free writes);
  ids_are = table-more r.slots after.slots n k after.ids free writes (ids (all_atoms r.slots) booked.ids_are);
}

pub booked-less : (r after : KeptView) (n : ℕ) (k : KeptElement) → at r.slots n ≡ Some k → Writes r.slots after.slots n None → r.total ≡ after.total + codes_in k →
    ((atoms : List BorneAtom) → IsTableOf r.ids (atoms_of k.found ++ atoms) → IsTableOf after.ids atoms) → IsBooked r → IsBooked after
booked-less r after n k was writes total ids booked = record {
  total_is = let sums = total-less r.slots after.slots n k was writes in let own = booked.total_is in omega (arith, total, sums, own);
  ids_are = ids (all_atoms after.slots) (table-less r.slots after.slots n k r.ids was writes booked.ids_are);
}

-- nothing was kept of it
pub keeps-none : (old new : KeptSlots) (n : ℕ) → at old n ≡ None → Writes old new n None → Keeps old new
keeps-none old new n none writes m = elim (cases_eq m n) [
  | inl e ↦ ap (at new) e ∙ writes.here ∙ sym none ∙ ap (at old) (sym e)
  | inr other ↦ writes.others m other
]

same-weight : (old new : KeptSlots) → Keeps old new → (w : List BorneAtom → ℕ) → w [] ≡ 0 → ((xs ys : List BorneAtom) → w (xs ++ ys) ≡ w xs + w ys) → w (all_atoms old) ≡ w (all_atoms new)
same-weight old new keeps w nil plus = all-atoms w nil plus old ∙ sym (kept-sum (own-weight w) old new keeps) ∙ sym (all-atoms w nil plus new)

pub booked-same : (r after : KeptView) → Keeps r.slots after.slots → after.total ≡ r.total → after.ids ≡ r.ids → IsBooked r → IsBooked after
booked-same r after keeps total ids-same booked = record {
  total_is = total ∙ booked.total_is ∙ sym (kept-sum codes_in r.slots after.slots keeps);
  ids_are = subst (λ (table : IdEntries). IsTableOf table (all_atoms after.slots)) (sym ids-same) (record {
    ids_are = λ id bearer.
        booked.ids_are.ids_are id bearer ∙ same-weight r.slots after.slots keeps (λ atoms. sum_by (λ x. cond (is_borne id bearer x) 1 0) (ids atoms)) refl (count-ids id bearer);
    references_are = λ id.
        booked.ids_are.references_are id ∙ same-weight r.slots after.slots keeps (λ atoms. sum_by (λ x. cond (is_reference id x) 1 0) (references atoms)) refl (count-references id);
  });
}

-- what is written of an element with the same entry changes no sum
pub booked-rewritten : (r after : KeptView) (n : ℕ) (k j : KeptElement) → at r.slots n ≡ Some k → Writes r.slots after.slots n (Some j) → j.found ≡ k.found → after.total ≡ r.total → after.ids ≡ r.ids →
    IsBooked r → IsBooked after
booked-rewritten r after n k j was writes found total ids-same booked = record {
  total_is =
      let moved = written-sum codes_in n r.slots after.slots (Some j) writes in
      let before : weigh codes_in (at r.slots n) ≡ codes_in k = ap (weigh codes_in) was in
      let same : codes_in j ≡ codes_in k = ap (λ (e : ElementEntry). entry_total (entry_of e)) found in
      let own = booked.total_is in
      omega (arith, moved, before, same, own, total);
  ids_are = subst (λ (table : IdEntries). IsTableOf table (all_atoms after.slots)) (sym ids-same) (record {
    ids_are = λ id bearer.
        booked.ids_are.ids_are id bearer ∙ weighs (λ atoms. sum_by (λ x. cond (is_borne id bearer x) 1 0) (ids atoms)) refl (count-ids id bearer);
    references_are = λ id.
        booked.ids_are.references_are id ∙ weighs (λ atoms. sum_by (λ x. cond (is_reference id x) 1 0) (references atoms)) refl (count-references id);
  });
}
  where
    weighs : (w : List BorneAtom → ℕ) → w [] ≡ 0 → ((xs ys : List BorneAtom) → w (xs ++ ys) ≡ w xs + w ys) → w (all_atoms r.slots) ≡ w (all_atoms after.slots)
    weighs w nil plus =
        let moved = written-sum (own-weight w) n r.slots after.slots (Some j) writes in
        let before : weigh (own-weight w) (at r.slots n) ≡ own-weight w k = ap (weigh (own-weight w)) was in
        let same : own-weight w j ≡ own-weight w k = ap (λ (e : ElementEntry). w (atoms_of e)) found in
        let a = all-atoms w nil plus r.slots in
        let b = all-atoms w nil plus after.slots in
        omega (arith, moved, before, same, a, b)

-- a number under which something is kept has a place
pub within : (ks : KeptSlots) (n : ℕ) (k : KeptElement) → at ks n ≡ Some k → n < length ks
within ks n k e = elim (cases_lt n (length ks)) [
  | inl l ↦ l
  | inr past ↦ absurd (none-some k (sym (get_or-eq_default ks None past) ∙ e))
]

-- one element is written twice
pub writes-again : (old mid new : KeptSlots) (n : ℕ) (x y : Option KeptElement) → Writes old mid n x → Writes mid new n y → Writes old new n y
writes-again old mid new n x y first second = record { here = second.here; others = λ m other. second.others m other ∙ first.others m other }
