-- Slots that are put from the last to the first.
use Rattle.std.proofs.Common.{◌≡◌, ℕ, suc, ◌+◌, ◌<◌, ◌≤◌, List, [], ◌∷◌, ◌++◌, length, map, drop, get_or, add-one, sym, ap, ◌∙◌, subst, Option, Some, None, refl, inl, inr, arith, append_assoc, append-nil, drop-cons}
use Rattle.std.proofs.lemmas.List.{length-append}
use Rattle.std.proofs.lemmas.Option.{none-some}
use Rattle.doc_nodes.specs.declared.content.NewNode.{NewNode}
use Rattle.doc_nodes.specs.declared.links.Hung.{Hung}
use Rattle.doc_nodes.specs.declared.slots.Slot.{Slot}
use Rattle.doc_nodes.specs.Nodes.{Has, Lacks, Distinct}
use Rattle.doc_nodes.specs.Slots.{slot, Writes}
use Rattle.doc_nodes.specs.Families.{AreUnused, slot_of, new_slots, PutsSlots}

pub puts_size : (p depth : ℕ) (old now : List (Option Slot)) (cs : List NewNode) (hs : List Hung) → PutsSlots old now (new_slots p depth cs hs) → length now ≡ length old
puts_size p depth old now [] hs r = ap length r
puts_size p depth old now (c ∷ cs) [] r = ap length r
puts_size p depth old now (c ∷ cs) (h ∷ hs) r = r.2.size ∙ puts_size p depth old r.0 cs hs r.1

-- other numbers keep theirs
pub puts_others : (p depth : ℕ) (old now : List (Option Slot)) (cs : List NewNode) (hs : List Hung) (m : ℕ) → PutsSlots old now (new_slots p depth cs hs) → Lacks m (map (λ c. c.number) cs) → slot now m ≡ slot old m
puts_others p depth old now [] hs m r l = ap (λ ss. slot ss m) r
puts_others p depth old now (c ∷ cs) [] m r l = ap (λ ss. slot ss m) r
puts_others p depth old now (c ∷ cs) (h ∷ hs) m r l = r.2.others m (λ e. l.0 (sym e)) ∙ puts_others p depth old r.0 cs hs m r.1 l.1

-- a number that has a slot is none of them
pub used_lacks : (old : List (Option Slot)) (cs : List NewNode) (p : ℕ) (s : Slot) → AreUnused old cs → slot old p ≡ Some s → Lacks p (map (λ c. c.number) cs)
used_lacks old [] p s u there = tt
used_lacks old (c ∷ cs) p s u there = ((λ e. none-some s (sym (u c (inl refl)).0 ∙ ap (slot old) e ∙ there)), used_lacks old cs p s (λ d k. u d (inr k)) there)

later_lacks : (rest : List NewNode) (c : NewNode) (done : List NewNode) → Distinct (map (λ c. c.number) ((rest ++ c ∷ []) ++ done)) → Lacks c.number (map (λ c. c.number) done)
later_lacks [] c done d = d.0
later_lacks (x ∷ rest) c done d = later_lacks rest c done d.1

has_last : (rest : List NewNode) (c : NewNode) (done : List NewNode) → Has c ((rest ++ c ∷ []) ++ done)
has_last [] c done = inl refl
has_last (x ∷ rest) c done = inr (has_last rest c done)

length_last : (rest : List NewNode) (c : NewNode) → length (rest ++ c ∷ []) ≡ length rest + 1
length_last [] c = refl
length_last (x ∷ rest) c = let h = length_last rest c in omega (arith, h)

-- the last ones were put, and these are left
pub record PutSoFar (old now : List (Option Slot)) (room p depth : ℕ) (all : List NewNode) (hung : List Hung) (left : List NewNode) (n : ℕ) : Type 0 where
  pub done : List NewNode
  pub split : all ≡ left ++ done
  pub many : n ≡ length left
  pub puts : PutsSlots old now (new_slots p depth done (drop n hung))
  pub room_is : length left ≤ room

pub put_begun : (old : List (Option Slot)) (room p depth : ℕ) (all : List NewNode) (hung : List Hung) (n : ℕ) → n ≡ length hung → length hung ≡ length all → length all ≤ room → PutSoFar old old room p depth all hung all n
put_begun old room p depth all hung n is many le = record { done = []; split = sym (append-nil all); many = is ∙ many; puts = refl; room_is = le }

module _ (old now : List (Option Slot)) (room p depth : ℕ) (all : List NewNode) (hung : List Hung) (left : List NewNode) (n : ℕ) (so : PutSoFar old now room p depth all hung left n)
    (many : length hung ≡ length all) (rest : List NewNode) (c : NewNode) (popped : left ≡ rest ++ c ∷ []) where
  whole : all ≡ (rest ++ c ∷ []) ++ so.done
  whole = so.split ∙ ap (λ l. l ++ so.done) popped

  pub some_left : n ≡ length rest + 1
  some_left = so.many ∙ ap length popped ∙ length_last rest c

  pub within_hung : length rest < length hung
  within_hung = let a = ap length whole in let b = length-append (rest ++ c ∷ []) so.done in let d = length_last rest c in omega (arith, a, b, d, many)

  pub room_left : 1 ≤ room
  room_left = let a = so.room_is in let b = ap length popped in let d = length_last rest c in omega (arith, a, b, d)

  module _ (unused : AreUnused old all) (distinct : Distinct (map (λ c. c.number) all)) where
    unused_here : (slot old c.number ≡ None) × (c.number < length old)
    unused_here = unused c (subst (Has c) (sym whole) (has_last rest c so.done))

    pub number_within : c.number < length now
    number_within = subst (λ k. c.number < k) (sym (puts_size p depth old now so.done (drop n hung) so.puts)) (unused_here).1

    pub number_unused : slot now c.number ≡ None
    number_unused =
        puts_others p depth old now so.done (drop n hung) c.number so.puts (later_lacks rest c so.done (subst (λ l. Distinct (map (λ c. c.number) l)) whole distinct)) ∙ (unused_here).0

  pub put_next : (new : List (Option Slot)) (more k : ℕ) (h d : Hung) → k + 1 ≡ n → h ≡ get_or hung k d → Writes now new c.number (Some (slot_of p depth c h)) → room ≤ more + 1
      → PutSoFar old new more p depth all hung rest k
  put_next new more k h d one is write enough =
      let size = some_left in
      let at : k ≡ length rest = omega (arith, one, size) in
      let lt : k < length hung = (let w = within_hung in omega (arith, at, w)) in
      let here : drop k hung ≡ h ∷ drop n hung = drop-cons hung k d lt ∙ ap (λ y. y ∷ drop (suc k) hung) (sym is) ∙ ap (λ m. h ∷ drop m hung) (sym (add-one k) ∙ one) in
      record {
        done = c ∷ so.done;
        split = whole ∙ append_assoc rest (c ∷ []) so.done;
        many = at;
        puts = subst (λ l. PutsSlots old new (new_slots p depth (c ∷ so.done) l)) (sym here) (now, so.puts, write);
        room_is = (let a = so.room_is in let b = ap length popped in let l = length_last rest c in omega (arith, a, b, l, enough));
      }

pub put_ended : (old now : List (Option Slot)) (room p depth : ℕ) (all : List NewNode) (hung : List Hung) (left : List NewNode) (n : ℕ) → PutSoFar old now room p depth all hung left n → left ≡ []
    → PutsSlots old now (new_slots p depth all hung)
put_ended old now room p depth all hung left n so e =
    let all_is : so.done ≡ all = sym (so.split ∙ ap (λ l. l ++ so.done) e) in
    let zero_is : n ≡ 0 = so.many ∙ ap length e in
    subst (λ l. PutsSlots old now (new_slots p depth l hung)) all_is (subst (λ k. PutsSlots old now (new_slots p depth so.done (drop k hung))) zero_is so.puts)
