-- Maps of states meet the laws of a summary.
use Rattle.std.proofs.Common.{◌≡◌, ℕ, zero, suc, ◌+◌, ◌-◌, ◌<◌, ◌≤◌, ◌==◌, Bool, true, false, List, [], ◌∷◌, length, map, min, Option, Some, None, get_or, refl, sym, ap, subst, ◌∙◌, arith, eqb-true, eq-eqb}
use Rattle.std.specs.Prelude.{slice_index, unwrap_or, nat_lt, if◌then◌else◌}
use Rattle.std.proofs.lemmas.Grind.{same_number_lists}
use Rattle.std.proofs.lemmas.Bool.{cases_lt, le-ltb}
use Rattle.child_trees.specs.Laws.{SummaryLaws}
use Rattle.map_rows.specs.Rows.{RowMap, get, values_from, identity, composed}
use Rattle.map_rows.proofs.Lists.{length-values, values_at}
use Rattle.content_automaton.specs.Symbols.{count_of}
use Rattle.content_automaton.specs.Automaton.{Automaton, step_of, dead_of}
use Rattle.content_automaton.specs.Modelled.{ModelAutomaton}
use Rattle.model_summaries.specs.Maps.{IsMap, IsMapRow, map_at, width_of, leaf_of}

-- what a row has at a place, after another
composed_at : (m n : List ℕ) (s : ℕ) → s < length m → get_or (composed m n) s 0 ≡ get_or n (get_or m s 0) 0
composed_at [] n s l = absurd (omega arith)
composed_at (x ∷ m) n zero l = refl
composed_at (x ∷ m) n (suc s) l = composed_at m n s (omega arith)

length-composed : (m n : List ℕ) → length (composed m n) ≡ length m
length-composed [] n = refl
length-composed (x ∷ m) n = ap suc (length-composed m n)

identity_at : (h s : ℕ) → s < h → get_or (identity h) s 0 ≡ s
identity_at h s l = values_at (λ i. i) 0 h s l ∙ omega arith

length-identity : (h : ℕ) → length (identity h) ≡ h
length-identity h = length-values (λ i. i) 0 h

last_of : (h : ℕ) → get_or (identity h) (h - 1) 0 ≡ h - 1
last_of zero = refl
last_of (suc h) = identity_at (suc h) (suc h - 1) (omega arith)

unit_is : (h : ℕ) → IsMap h (identity h)
unit_is h = record {
  each = length-identity h;
  within = λ s l. subst (λ k. k < h) (sym (identity_at h s l)) l;
  dead = last_of h;
}

joined_dead : (h : ℕ) (m n : List ℕ) → IsMap h m → IsMap h n → get_or (composed m n) (h - 1) 0 ≡ h - 1
joined_dead zero m n a b = elim m as (λ m. length m ≡ 0 → get_or (composed m n) 0 0 ≡ 0) [ [] ↦ (λ e. refl) | x ∷ xs ↦ (λ e. absurd (omega arith)) ] a.each
joined_dead (suc h) m n a b =
    let l : suc h - 1 < length m = (let e = a.each in omega arith) in
    composed_at m n (suc h - 1) l ∙ (ap (λ k. get_or n k 0) a.dead ∙ b.dead)

join_is : (h : ℕ) (m n : List ℕ) → IsMap h m → IsMap h n → IsMap h (composed m n)
join_is h m n a b = record {
  each = length-composed m n ∙ a.each;
  within = λ s l. subst (λ k. k < h) (sym (composed_at m n s (let e = a.each in omega arith))) (b.within (get_or m s 0) (a.within s l));
  dead = joined_dead h m n a b;
}

left_unit : (h : ℕ) (m : List ℕ) → IsMap h m → composed (identity h) m ≡ m
left_unit h m a = same_number_lists (composed (identity h) m) m (length-composed (identity h) m ∙ (length-identity h ∙ sym a.each))
    (λ s l. let i : s < h = (let e = length-composed (identity h) m in let f = length-identity h in omega arith) in
    composed_at (identity h) m s (let f = length-identity h in omega arith) ∙ ap (λ k. get_or m k 0) (identity_at h s i))

right_unit : (h : ℕ) (m : List ℕ) → IsMap h m → composed m (identity h) ≡ m
right_unit h m a = same_number_lists (composed m (identity h)) m (length-composed m (identity h))
    (λ s l. let i : s < length m = (let e = length-composed m (identity h) in omega arith) in
    composed_at m (identity h) s i ∙ identity_at h (get_or m s 0) (a.within s (let e = a.each in omega arith)))

assoc : (h : ℕ) (m n o : List ℕ) → IsMap h m → IsMap h n → composed (composed m n) o ≡ composed m (composed n o)
assoc h m n o a b = same_number_lists (composed (composed m n) o) (composed m (composed n o))
    (length-composed (composed m n) o ∙ (length-composed m n ∙ sym (length-composed m (composed n o))))
    (λ s l.
    let i : s < length m = (let e = length-composed (composed m n) o in let f = length-composed m n in omega arith) in
    let j : get_or m s 0 < length n = (let w = a.within s (let e = a.each in omega arith) in let e = b.each in omega arith) in
    composed_at (composed m n) o s (let f = length-composed m n in omega arith) ∙ (ap (λ k. get_or o k 0) (composed_at m n s i) ∙
    (sym (composed_at n o (get_or m s 0) j) ∙ sym (composed_at m (composed n o) s i))))

stays_dead : (h : ℕ) (m : List ℕ) (s : ℕ) → IsMap h m → s < h → (s + 1 == h) ≡ true → (slice_index m s + 1 == h) ≡ true
stays_dead h m s a l e =
    let last : s ≡ h - 1 = (let f = eqb-true (s + 1) h e in omega arith) in
    let there : get_or m s 0 ≡ h - 1 = ap (λ k. get_or m k 0) last ∙ a.dead in
    eq-eqb (get_or m s 0 + 1) h (omega arith)

pub maps_laws : SummaryLaws {Shape = ℕ} {Map = List ℕ} {State = ℕ} (λ h s. s < h) IsMap identity composed slice_index (λ h s. s + 1 == h)
maps_laws = record {
  unit_is = unit_is;
  join_is = join_is;
  acts_is = λ h m s a l. a.within s l;
  left_unit = left_unit;
  right_unit = right_unit;
  assoc = λ h m n o a b c. assoc h m n o a b;
  acts_unit = identity_at;
  acts_join = λ h m n s a b l. composed_at m n s (let e = a.each in omega arith);
  stays_dead = stays_dead;
}

-- a live row has a map
pub row_maps : (v : RowMap) (r : ℕ) → IsMapRow v r → IsMap v.width (map_at v r)
row_maps v r h = subst (λ o. IsMap v.width (unwrap_or o [])) (sym h.is) h.lawful

-- the dead state of an automaton stays
dead_stays : (a : Automaton) (n : ℕ) → step_of a (dead_of a) n ≡ dead_of a
dead_stays a n = rw (le-ltb a.count a.count (omega arith)) refl

steps_within : (a : Automaton) (s n : ℕ) → step_of a s n < suc (dead_of a)
steps_within a s n = by (nat_lt s a.count) refl
  where
    by : (b : Bool) → nat_lt s a.count ≡ b → step_of a s n < suc (dead_of a)
    by true e = rw e (omega arith)
    by false e = rw e (omega arith)

-- the row of a symbol is a map
pub leaf_maps : (h : ℕ) (a : ModelAutomaton) (n : ℕ) → (width_of a ≡ h) × (n < count_of a.symbols) → IsMap h (leaf_of a n)
leaf_maps h a n (e, l) = subst (λ h. IsMap h (leaf_of a n)) e (record {
  each = length-values (λ s. step_of a.machine s n) 0 (width_of a);
  within = λ s i. subst (λ k. k < width_of a) (sym (values_at (λ s. step_of a.machine s n) 0 (width_of a) s i)) (steps_within a.machine (0 + s) n);
  dead = values_at (λ s. step_of a.machine s n) 0 (width_of a) (width_of a - 1) (omega arith) ∙
      (ap (λ s. step_of a.machine s n) (omega arith) ∙ (dead_stays a.machine n ∙ omega arith));
})
