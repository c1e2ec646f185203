-- Slots by number, before and after a write.
use Rattle.std.proofs.Common.{◌≡◌, ◌≢◌, ℕ, zero, suc, ◌<◌, List, [], ◌∷◌, ◌++◌, length, map, set, take, get_or, sym, ap, ◌∙◌, subst, Option, Some, None, IsSome, refl, inl, inr, get_or-set_same, get_or-set_other, length-set}
use Rattle.std.proofs.Math.ListN.{get_or-map, get_or-eq_default}
use Rattle.std.proofs.lemmas.Bool.{cases_lt}
use Rattle.std.proofs.lemmas.List.{length-map, get_or_default}
use Rattle.std.proofs.lemmas.Option.{same_Some, none-some}
use Rattle.slab.specs.Slab.{Slab, get, with_value, Updates}
use Rattle.slab.proofs.SlabLemmas.{Updates-with_value}
use Rattle.doc_nodes.specs.declared.slots.Slot.{Slot}
use Rattle.doc_nodes.specs.Slots.{slot, Writes, key_at, slot_by, IsKeyOf, AreKept}
use Rattle.doc_nodes.proofs.Among.{same_or_other}

pub slot_is : (keys : List (Option ℕ)) (slab : Slab Slot) (n : ℕ) → slot (map (slot_by slab) keys) n ≡ slot_by slab (key_at keys n)
slot_is keys slab n = get_or-map (slot_by slab) keys n None

pub push_none : {A : Type 0} (xs : List (Option A)) (n : ℕ) → get_or (xs ++ None ∷ []) n None ≡ get_or xs n None
push_none [] zero = refl
push_none [] (suc n) = refl
push_none (x ∷ xs) zero = refl
push_none (x ∷ xs) (suc n) = push_none xs n

pub take_some : {A : Type 0} (xs : List (Option A)) (u n : ℕ) (k : A) → get_or (take u xs) n None ≡ Some k → get_or xs n None ≡ Some k
take_some xs zero n k e = absurd (none-some k e)
take_some [] (suc u) n k e = e
take_some (x ∷ xs) (suc u) zero k e = e
take_some (x ∷ xs) (suc u) (suc n) k e = take_some xs u n k e

pub kept_push : (keys : List (Option ℕ)) (slab : Slab Slot) → AreKept keys slab → AreKept (keys ++ None ∷ []) slab
kept_push keys slab kept n key e = kept n key (sym (push_none keys n) ∙ e)

pub kept_take : (keys : List (Option ℕ)) (slab : Slab Slot) (u : ℕ) → AreKept keys slab → AreKept (take u keys) slab
kept_take keys slab u kept n key e = kept n key (take_some keys u n key e)

module _ (keys ks : List (Option ℕ)) (slab sl : Slab Slot) (n key : ℕ) (kept : AreKept keys slab)
    (size : length ks ≡ length keys) (others : (m : ℕ) → m ≢ n → key_at ks m ≡ key_at keys m)
    (away : (m k : ℕ) → m ≢ n → key_at keys m ≡ Some k → get sl k ≡ get slab k) where
  same_by : (m : ℕ) → m ≢ n → (o : Option ℕ) → key_at keys m ≡ o → slot_by sl o ≡ slot_by slab o
  same_by m d None e = refl
  same_by m d (Some k) e = away m k d e

  pub writes : (to : Option Slot) → slot_by sl (key_at ks n) ≡ to → Writes (map (slot_by slab) keys) (map (slot_by sl) ks) n to
  writes to e = record {
    size = length-map ks (slot_by sl) ∙ size ∙ sym (length-map keys (slot_by slab));
    changed = slot_is ks sl n ∙ e;
    others = λ m d. slot_is ks sl m ∙ ap (slot_by sl) (others m d) ∙ same_by m d (key_at keys m) refl ∙ sym (slot_is keys slab m);
  }

  pub kept_on : ((k : ℕ) → key_at ks n ≡ Some k → IsKeyOf sl k n) → AreKept ks sl
  kept_on here m k e = elim (same_or_other m n) [
    | inl q ↦ subst (IsKeyOf sl k) (sym q) (here k (ap (key_at ks) (sym q) ∙ e))
    | inr d ↦
        let was = sym (others m d) ∙ e in
        let o = kept m k was in
        (o.0, away m k d was ∙ o.1, o.2)
  ]

module _ (keys : List (Option ℕ)) (slab sl : Slab Slot) (n key : ℕ) (kept : AreKept keys slab) where
  -- a new key is no other number's
  away_put : (s : Option Slot) → get slab key ≡ None → Updates slab sl key s → (m k : ℕ) → m ≢ n → key_at keys m ≡ Some k → get sl k ≡ get slab k
  away_put s free u m k d e = u.others k (λ q. let o = kept m k e in none-some o.0 (sym free ∙ ap (get slab) (sym q) ∙ o.1))

  -- nor is the key of this number
  away_take : (s : Option Slot) → key_at keys n ≡ Some key → Updates slab sl key s → (m k : ℕ) → m ≢ n → key_at keys m ≡ Some k → get sl k ≡ get slab k
  away_take s at u m k d e = u.others k (λ q.
      let o = kept m k e in
      let p = kept n key at in
      let same : o.0 ≡ p.0 = same_Some o.0 p.0 (sym o.1 ∙ ap (get slab) q ∙ p.1) in
      d (sym o.2 ∙ ap (λ (s : Slot). s.number) same ∙ p.2))

  at_set : (to : Option ℕ) → n < length keys → key_at (set keys n to) n ≡ to
  at_set to lt = get_or-set_same keys n to None lt

  set_others : (to : Option ℕ) (m : ℕ) → m ≢ n → key_at (set keys n to) m ≡ key_at keys m
  set_others to m d = get_or-set_other keys n m to None d

  pub writes_put : (s : Slot) → n < length keys → get slab key ≡ None → Updates slab sl key (Some s)
      → Writes (map (slot_by slab) keys) (map (slot_by sl) (set keys n (Some key))) n (Some s)
  writes_put s lt free u =
      writes keys (set keys n (Some key)) slab sl n key kept (length-set keys n (Some key)) (set_others (Some key)) (away_put (Some s) free u) (Some s)
      (ap (slot_by sl) (at_set (Some key) lt) ∙ u.changed)

  pub kept_put : (s : Slot) → n < length keys → s.number ≡ n → get slab key ≡ None → Updates slab sl key (Some s) → AreKept (set keys n (Some key)) sl
  kept_put s lt num free u =
      kept_on keys (set keys n (Some key)) slab sl n key kept (length-set keys n (Some key)) (set_others (Some key)) (away_put (Some s) free u)
      (λ k e. let q : key ≡ k = same_Some key k (sym (at_set (Some key) lt) ∙ e) in (s, ap (get sl) (sym q) ∙ u.changed, num))

  pub writes_take : n < length keys → key_at keys n ≡ Some key → Updates slab sl key None
      → Writes (map (slot_by slab) keys) (map (slot_by sl) (set keys n None)) n None
  writes_take lt at u =
      writes keys (set keys n None) slab sl n key kept (length-set keys n None) (set_others None) (away_take None at u) None
      (ap (slot_by sl) (at_set None lt))

  pub kept_take_out : n < length keys → key_at keys n ≡ Some key → Updates slab sl key None → AreKept (set keys n None) sl
  kept_take_out lt at u =
      kept_on keys (set keys n None) slab sl n key kept (length-set keys n None) (set_others None) (away_take None at u)
      (λ k e. absurd (none-some k (sym (at_set None lt) ∙ e)))

  -- what is written in the place of what was there
  pub writes_at : (s : Slot) → key_at keys n ≡ Some key → Updates slab sl key (Some s) → Writes (map (slot_by slab) keys) (map (slot_by sl) keys) n (Some s)
  writes_at s at u = writes keys keys slab sl n key kept refl (λ m d. refl) (away_take (Some s) at u) (Some s) (ap (slot_by sl) at ∙ u.changed)

  pub kept_at : (s : Slot) → key_at keys n ≡ Some key → s.number ≡ n → Updates slab sl key (Some s) → AreKept keys sl
  kept_at s at num u =
      kept_on keys keys slab sl n key kept refl (λ m d. refl) (away_take (Some s) at u)
      (λ k e. let q : key ≡ k = same_Some key k (sym at ∙ e) in (s, ap (get sl) (sym q) ∙ u.changed, num))

-- a number whose slot is there has a key
pub within_of : (keys : List (Option ℕ)) (slab : Slab Slot) (n : ℕ) (s : Slot) → slot (map (slot_by slab) keys) n ≡ Some s → n < length keys
within_of keys slab n s e =
    elim (cases_lt n (length keys)) [
      | inl lt ↦ lt
      | inr out ↦ absurd (none-some s (sym (ap (slot_by slab) (get_or-eq_default keys None out)) ∙ sym (slot_is keys slab n) ∙ e))
    ]

pub taken_key : (keys : List (Option ℕ)) (slab : Slab Slot) (n : ℕ) (r : Option ℕ) (s : Slot) (k : ℕ) → slot (map (slot_by slab) keys) n ≡ Some s
    → r ≡ get_or keys n r → r ≡ Some k → (n < length keys) × (key_at keys n ≡ Some k)
taken_key keys slab n r s k there read is =
    let lt = within_of keys slab n s there in
    (lt, sym (read ∙ get_or_default keys n r None lt) ∙ is)

-- what is written through the reference to the node of a number, which keeps its number
module _ (keys : List (Option ℕ)) (slab : Slab Slot) (n : ℕ) (r : Option ℕ) (x w : Slot) (key : ℕ) (kept : AreKept keys slab)
    (there : slot (map (slot_by slab) keys) n ≡ Some x) (read : r ≡ get_or keys n r) (is : r ≡ Some key) (lent : Some w ≡ get slab key) where
  lent_key : key_at keys n ≡ Some key
  lent_key = (taken_key keys slab n r x key there read is).1

  pub lent_is : w ≡ x
  lent_is = same_Some w x (lent ∙ sym (ap (slot_by slab) lent_key) ∙ sym (slot_is keys slab n) ∙ there)

  lent_updates : (s : Slot) → Updates slab (with_value slab key s) key (Some s)
  lent_updates s = Updates-with_value slab key s (subst (λ (o : Option Slot). IsSome o) lent refl)

  pub lent_writes : (s : Slot) → Writes (map (slot_by slab) keys) (map (slot_by (with_value slab key s)) keys) n (Some s)
  lent_writes s = writes_at keys slab (with_value slab key s) n key kept s lent_key (lent_updates s)

  pub lent_kept : (s : Slot) → s.number ≡ w.number → x.number ≡ n → AreKept keys (with_value slab key s)
  lent_kept s same num = kept_at keys slab (with_value slab key s) n key kept s lent_key (same ∙ ap (λ (y : Slot). y.number) lent_is ∙ num) (lent_updates s)
