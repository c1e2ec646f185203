-- The latest revision of the turns that pass a test.
use Rattle.std.proofs.Common.{◌≡◌, ℕ, ◌≤◌, Bool, true, false, cond, ◌&&◌, ◌||◌, ltb, max, List, [], ◌∷◌, ◌++◌, Option, None, Some, refl, sym, ap, ◌∙◌, subst, arith}
use Rattle.std.proofs.lemmas.Bool.{ltb-true, ltb-false, lt-ltb, le-ltb}
use Rattle.std.proofs.Math.Nat.{max_comm, le-max_left}
use Rattle.edit_history.specs.Turns.{Turn, later, latest}

-- the greater of two numbers is one of them
max_right : (m n : ℕ) → m ≤ n → max m n ≡ n
max_right m n h = grind arith

max_left : (m n : ℕ) → n ≤ m → max m n ≡ m
max_left m n h = max_comm m n ∙ max_right n m h

max_assoc : (a b c : ℕ) → max (max a b) c ≡ max a (max b c)
max_assoc a b c = grind arith

later_assoc : (a b c : Option ℕ) → later (later a b) c ≡ later a (later b c)
later_assoc None b c = refl
later_assoc (Some a) None c = refl
later_assoc (Some a) (Some b) None = refl
later_assoc (Some a) (Some b) (Some c) = ap Some (max_assoc a b c)

later_comm : (a b : Option ℕ) → later a b ≡ later b a
later_comm None None = refl
later_comm None (Some b) = refl
later_comm (Some a) None = refl
later_comm (Some a) (Some b) = ap Some (max_comm a b)

later_same : (a : Option ℕ) → later a a ≡ a
later_same None = refl
later_same (Some a) = ap Some (max_right a a (omega arith))

pub later_none : (a : Option ℕ) → later a None ≡ a
later_none None = refl
later_none (Some a) = refl

module _ (p q : Turn → Bool) where
  -- tests that give the same answers have the same latest turn
  pub latest_alike : (ts : List Turn) → ((t : Turn) → p t ≡ q t) → latest p ts ≡ latest q ts
  latest_alike [] h = refl
  latest_alike (t ∷ ts) h = let rest = latest_alike ts h in λ i. cond (h t i) (later (Some t.revision) (rest i)) (rest i)

  -- of the turns that pass the one test or the other
  pub latest_either : (ts : List Turn) → latest (λ t. p t || q t) ts ≡ later (latest p ts) (latest q ts)
  latest_either [] = refl
  latest_either (t ∷ ts) = ap (λ o. cond (p t || q t) (later (Some t.revision) o) o) (latest_either ts) ∙ choice (p t) (q t) (Some t.revision) (latest p ts) (latest q ts)
    where
      choice : (a b : Bool) (r l m : Option ℕ) → cond (a || b) (later r (later l m)) (later l m) ≡ later (cond a (later r l) l) (cond b (later r m) m)
      choice false false r l m = refl
      choice true false r l m = sym (later_assoc r l m)
      choice false true r l m = sym (later_assoc r l m) ∙ ap (λ o. later o m) (later_comm r l) ∙ later_assoc l r m
      choice true true r l m =
          ap (λ o. later o (later l m)) (sym (later_same r)) ∙ later_assoc r r (later l m) ∙ ap (later r) (sym (later_assoc r l m) ∙ ap (λ o. later o m) (later_comm r l) ∙ later_assoc l r m)
          ∙ sym (later_assoc r l (later r m))

module _ (p q : Turn → Bool) (within : (t : Turn) → p t ≡ true → q t ≡ true) where
  -- of fewer turns none is later
  pub latest_within : (ts : List Turn) → later (latest p ts) (latest q ts) ≡ latest q ts
  latest_within ts = sym (latest_either p q ts) ∙ latest_alike (λ t. p t || q t) q ts (λ t. absorbed (p t) (q t) (within t))
    where
      absorbed : (a b : Bool) → (a ≡ true → b ≡ true) → (a || b) ≡ b
      absorbed true b h = sym (h refl)
      absorbed false b h = refl

  -- and where more turns have none, fewer have none
  pub none_within : (ts : List Turn) → latest q ts ≡ None → latest p ts ≡ None
  none_within ts none = first (latest p ts) (subst (λ o. later (latest p ts) o ≡ o) none (latest_within ts))
    where
      first : (a : Option ℕ) → later a None ≡ None → a ≡ None
      first a h = sym (later_none a) ∙ h

module _ (p : Turn → Bool) where
  -- of no turns
  pub latest_of_none : (ts : List Turn) → ((t : Turn) → p t ≡ false) → latest p ts ≡ None
  latest_of_none [] h = refl
  latest_of_none (t ∷ ts) h = ap (λ b. cond b (later (Some t.revision) (latest p ts)) (latest p ts)) (h t) ∙ latest_of_none ts h

  latest_append : (ts us : List Turn) → latest p (ts ++ us) ≡ later (latest p ts) (latest p us)
  latest_append [] us = refl
  latest_append (t ∷ ts) us = ap (λ o. cond (p t) (later (Some t.revision) o) o) (latest_append ts us) ∙ choice (p t) (Some t.revision) (latest p ts) (latest p us)
    where
      choice : (b : Bool) (r l m : Option ℕ) → cond b (later r (later l m)) (later l m) ≡ later (cond b (later r l) l) m
      choice true r l m = sym (later_assoc r l m)
      choice false r l m = refl

  -- a turn that passes, at the end
  pub latest_takes : (ts : List Turn) (t : Turn) → p t ≡ true → latest p (ts ++ t ∷ []) ≡ later (latest p ts) (Some t.revision)
  latest_takes ts t h = latest_append ts (t ∷ []) ∙ ap (λ b. later (latest p ts) (cond b (Some t.revision) None)) h

  -- a turn that does not, at the end
  pub latest_skips : (ts : List Turn) (t : Turn) → p t ≡ false → latest p (ts ++ t ∷ []) ≡ latest p ts
  latest_skips ts t h = latest_append ts (t ∷ []) ∙ ap (λ b. later (latest p ts) (cond b (Some t.revision) None)) h ∙ later_none (latest p ts)

-- a revision that is later than another one
abbrev pub if_after : ℕ → Option ℕ → Option ℕ
if_after seen None = None
if_after seen (Some n) = cond (ltb seen n) (Some n) None

-- of the turns after a revision
pub latest_after : (p : Turn → Bool) (seen : ℕ) (ts : List Turn) → latest (λ t. p t && ltb seen t.revision) ts ≡ if_after seen (latest p ts)
latest_after p seen [] = refl
latest_after p seen (t ∷ ts) =
    ap (λ o. cond (p t && ltb seen t.revision) (later (Some t.revision) o) o) (latest_after p seen ts) ∙ choice (p t) t.revision (latest p ts)
  where
    both : (r n : ℕ) (a b : Bool) → ltb seen r ≡ a → ltb seen n ≡ b → cond a (later (Some r) (cond b (Some n) None)) (cond b (Some n) None) ≡ cond (ltb seen (max r n)) (Some (max r n)) None
    both r n true true f g = let h : ltb seen (max r n) ≡ true = lt-ltb seen (max r n) (let one = ltb-true seen r f in let two = le-max_left r n in omega arith) in rw h refl
    both r n true false f g =
        let one = ltb-true seen r f in let two = ltb-false seen n g in let e : max r n ≡ r = max_left r n (omega arith) in
        rw (e, f) refl
    both r n false true f g =
        let one = ltb-false seen r f in let two = ltb-true seen n g in let e : max r n ≡ n = max_right r n (omega arith) in
        rw (e, g) refl
    both r n false false f g =
        let one = ltb-false seen r f in let two = ltb-false seen n g in
        let h : ltb seen (max r n) ≡ false = le-ltb seen (max r n) (grind arith) in rw h refl

    choice : (a : Bool) (r : ℕ) (l : Option ℕ) → cond (a && ltb seen r) (later (Some r) (if_after seen l)) (if_after seen l) ≡ if_after seen (cond a (later (Some r) l) l)
    choice false r l = refl
    choice true r None = refl
    choice true r (Some n) = both r n (ltb seen r) (ltb seen n) refl refl

-- what lies between two that are alike is like them
pub between : (a b c : Option ℕ) (r : ℕ) → later a b ≡ b → later b c ≡ c → a ≡ Some r → c ≡ Some r → b ≡ Some r
between a b c r low high one two = squeezed b (subst (λ o. later o b ≡ b) one low) (subst (λ o. later b o ≡ o) two high)
  where
    squeezed : (b : Option ℕ) → later (Some r) b ≡ b → later b (Some r) ≡ Some r → b ≡ Some r
    squeezed None low high = sym low
    squeezed (Some n) low high = sym low ∙ ap Some (max_comm r n) ∙ high

-- what is not later than a revision is not later than a greater one
pub not_later : (a c : Option ℕ) (n : ℕ) → later a c ≡ c → ((m : ℕ) → c ≡ Some m → m ≤ n) → later a (Some n) ≡ Some n
not_later a None n h below = ap (λ o. later o (Some n)) (sym (later_none a) ∙ h)
not_later None (Some m) n h below = refl
not_later (Some k) (Some m) n h below = ap Some (max_right k n (let one = le-max_left k m in let two : max k m ≡ m = some_max h in let three = below m refl in omega arith))
  where
    some_max : {x y : ℕ} → Some x ≡ Some y → x ≡ y
    some_max e = cc
