-- Chains of free numbers, and what a write does to them.
use Rattle.std.proofs.Common.{◌≡◌, ◌≢◌, ◌⊎◌, ℕ, zero, suc, ◌-◌, ◌^◌, ◌<◌, ◌≤◌, List, [], ◌∷◌, ◌++◌, length, set, map, Option, Some, None, refl, sym, ap, ◌∙◌, subst, inl, inr, arith}
use Rattle.std.proofs.lemmas.Bool.{cases_lt}
use Rattle.std.proofs.lemmas.List.{get_or-set_same, get_or-set_other, get_or_past, get_or_push, get_or_append_left, length-set, length_push}
use Rattle.child_trees.specs.declared.tops.Slot.{Slot}
use Rattle.child_trees.specs.declared.tops.Slot.TheVariants.{Taken, Free}
use Rattle.child_trees.specs.Tops.{Top, top_of, slot_at, top_at, Writes, IsIn, IsLink, IsChain, AreLinked}

-- the top of a number is that of its slot
pub top_is : (ss : List Slot) (q : ℕ) → top_at (map top_of ss) q ≡ top_of (slot_at ss q)
top_is [] q = refl
top_is (s ∷ ss) zero = refl
top_is (s ∷ ss) (suc q) = top_is ss q

-- the slot of a list's number, and that it is one of the slots
pub taken_slot : (ss : List Slot) (q : ℕ) (top : Top) → top_at (map top_of ss) q ≡ Some top → (q < length ss) × (slot_at ss q ≡ Taken top)
taken_slot ss q top e = both (cases_lt q (length ss))
  where
    of_slot : (s : Slot) → top_of s ≡ Some top → s ≡ Taken top
    of_slot (Taken t) f = ap Taken (let g : t ≡ top = cc in g)
    of_slot (Free n) f = absurd (cc)

    slot : slot_at ss q ≡ Taken top
    slot = of_slot (slot_at ss q) (sym (top_is ss q) ∙ e)

    both : ((q < length ss) ⊎ (length ss ≤ q)) → (q < length ss) × (slot_at ss q ≡ Taken top)
    both (inl l) = (l, slot)
    both (inr g) = absurd (let f : Taken top ≡ Free None = sym slot ∙ get_or_past ss q (Free None) g in cc)

-- a number in a chain is free
pub chained : (ss : List Slot) (first : Option ℕ) (qs : List ℕ) (q : ℕ) → IsChain ss first qs → IsIn q qs → (next : Option ℕ) × IsLink ss q next
chained ss first [] q c i = absurd i
chained ss first (x ∷ qs) q c (inl e) = (c.2.0, subst (λ y. IsLink ss y c.2.0) (sym e) c.2.1)
chained ss first (x ∷ qs) q c (inr i) = chained ss c.2.0 qs q c.2.2 i

-- a chain stays where its slots do
pub chain_stays : (ss ts : List Slot) (first : Option ℕ) (qs : List ℕ) → IsChain ss first qs → ((q : ℕ) (next : Option ℕ) → IsIn q qs → IsLink ss q next → IsLink ts q next) → IsChain ts first qs
chain_stays ss ts first [] c stays = c
chain_stays ss ts first (q ∷ qs) c stays = (c.0, c.1, (c.2.0, stays q c.2.0 (inl refl) c.2.1, chain_stays ss ts c.2.0 qs c.2.2 (λ p n i l. stays p n (inr i) l)))

link_set : (ss : List Slot) (q p : ℕ) (s : Slot) (next : Option ℕ) → p ≢ q → IsLink ss p next → IsLink (set ss q s) p next
link_set ss q p s next n l = record { within = subst (λ m. p < m) (sym (length-set ss q s)) l.within; slot = get_or-set_other ss q p s (Free None) n ∙ l.slot }

-- a list's number is in no chain
not_chained : (ss : List Slot) (first : Option ℕ) (qs : List ℕ) (q : ℕ) (top : Top) → IsChain ss first qs → slot_at ss q ≡ Taken top → ¬ IsIn q qs
not_chained ss first qs q top c e i = let l = (chained ss first qs q c i).1.slot in absurd (let n = (chained ss first qs q c i).0 in let f : Taken top ≡ Free n = sym e ∙ l in cc)

module _ (ss : List Slot) (free : Option ℕ) (a : AreLinked ss free) where
  -- another top is written
  pub linked_set : (q : ℕ) (top new : Top) → slot_at ss q ≡ Taken top → AreLinked (set ss q (Taken new)) free
  linked_set q top new e = record {
    chain = a.chain;
    linked = chain_stays ss (set ss q (Taken new)) free a.chain a.linked (λ p n i l. link_set ss q p (Taken new) n (λ k. not_chained ss free a.chain q top a.linked e (subst (λ x. IsIn x a.chain) k i)) l);
    few = subst (λ n. n < 2 ^ 32) (sym (length-set ss q (Taken new))) a.few;
  }

  -- a number is given back
  pub linked_give : (q : ℕ) (top : Top) → q < length ss → slot_at ss q ≡ Taken top → AreLinked (set ss q (Free free)) (Some q)
  linked_give q top w e = record {
    chain = q ∷ a.chain;
    linked = (
      refl,
      not_chained ss free a.chain q top a.linked e,
      (
        free,
        record { within = subst (λ m. q < m) (sym (length-set ss q (Free free))) w; slot = get_or-set_same ss q (Free free) (Free None) w },
        chain_stays ss (set ss q (Free free)) free a.chain a.linked (λ p n i l. link_set ss q p (Free free) n (λ k. not_chained ss free a.chain q top a.linked e (subst (λ x. IsIn x a.chain) k i)) l),
      ),
    );
    few = subst (λ n. n < 2 ^ 32) (sym (length-set ss q (Free free))) a.few;
  }

  -- one more number
  pub linked_push : (top : Top) → length ss < 2 ^ 32 - 1 → AreLinked (ss ++ Taken top ∷ []) free
  linked_push top room = record {
    chain = a.chain;
    linked = chain_stays ss (ss ++ Taken top ∷ []) free a.chain a.linked (λ p n i l. record { within = omega (arith, length_push ss (Taken top), l.within); slot = get_or_append_left ss (Taken top ∷ []) (Free None) p l.within ∙ l.slot });
    few = omega (arith, length_push ss (Taken top), room);
  }

-- the first number of a chain, and what is left once it is taken
pub record FirstFree (ss : List Slot) (q : ℕ) : Type 0 where
  pub next : Option ℕ
  pub link : IsLink ss q next
  pub rest : AreLinked (set ss q (Taken None)) next

pub first_free : (ss : List Slot) (q : ℕ) → AreLinked ss (Some q) → FirstFree ss q
first_free ss q a = of_chain a.chain a.linked
  where
    of_chain : (qs : List ℕ) → IsChain ss (Some q) qs → FirstFree ss q
    of_chain [] c = absurd (cc)
    of_chain (x ∷ qs) c =
        let e : x ≡ q = (let f : Some q ≡ Some x = c.0 in cc) in
        record {
          next = c.2.0;
          link = subst (λ y. IsLink ss y c.2.0) e c.2.1;
          rest = record {
            chain = qs;
            linked = chain_stays ss (set ss q (Taken None)) c.2.0 qs c.2.2 (λ p n i l. link_set ss q p (Taken None) n (λ k. c.1 (subst (λ y. IsIn y qs) (k ∙ sym e) i)) l);
            few = subst (λ n. n < 2 ^ 32) (sym (length-set ss q (Taken None))) a.few;
          };
        }

-- a slot is written
pub writes_set : (ss : List Slot) (q : ℕ) (s : Slot) → q < length ss → Writes (map top_of ss) (map top_of (set ss q s)) q (top_of s)
writes_set ss q s w = record {
  changed = top_is (set ss q s) q ∙ ap top_of (get_or-set_same ss q s (Free None) w);
  others = λ p n. top_is (set ss q s) p ∙ ap top_of (get_or-set_other ss q p s (Free None) n) ∙ sym (top_is ss p);
}

pub writes_push : (ss : List Slot) (s : Slot) → Writes (map top_of ss) (map top_of (ss ++ s ∷ [])) (length ss) (top_of s)
writes_push ss s = record {
  changed = top_is (ss ++ s ∷ []) (length ss) ∙ ap top_of (get_or_push ss s (Free None) (length ss) refl);
  others = λ p n. top_is (ss ++ s ∷ []) p ∙ ap top_of (other p n) ∙ sym (top_is ss p);
}
  where
    other : (p : ℕ) → p ≢ length ss → slot_at (ss ++ s ∷ []) p ≡ slot_at ss p
    other p n = elim (cases_lt p (length ss)) [
      | inl l ↦ get_or_append_left ss (s ∷ []) (Free None) p l
      | inr g ↦ get_or_past (ss ++ s ∷ []) p (Free None) (omega (arith, length_push ss s, g, n)) ∙ sym (get_or_past ss p (Free None) g)
    ]

pub past_free : (ss : List Slot) → top_at (map top_of ss) (length ss) ≡ None
past_free ss = top_is ss (length ss) ∙ ap top_of (get_or_past ss (length ss) (Free None) (omega arith))

pub free_is : (a b : Option ℕ) → Free a ≡ Free b → a ≡ b
free_is a b e = cc

pub first_of : (ss : List Slot) (free : Option ℕ) (q : ℕ) → AreLinked ss free → free ≡ Some q → FirstFree ss q
first_of ss free q a e = first_free ss q (subst (λ f. AreLinked ss f) e a)
