-- Marks spread from a type to its members.
use Rattle.std.proofs.Common.{◌≡◌, ℕ, zero, ◌+◌, ◌*◌, ◌<◌, ◌⊎◌, inl, inr, List, [], ◌∷◌, ◌++◌, Bool, true, false, Some, length, length-append, set, get_or, refl, sym, ap, ◌∙◌, subst, arith, length-set}
use Rattle.std.specs.Prelude.{All, Contains, sum_by}
use Rattle.std.proofs.lemmas.Bool.{cases_eq, true≢false}
use Rattle.std.proofs.lemmas.List.{get_or-set_same, get_or-set_other}
use Rattle.std.proofs.lemmas.List.Sums.{sum_by-set}
use Rattle.std.proofs.lemmas.List.Elements.{All-nil, All-cons, All-append, All-pop, All-weaker, All-contains, All-contains_itself, Contains-append_left, Contains-append_right, Contains-push_cases}
use Rattle.xs_codes.specs.declared.builtin.Builtin.{Builtin as Built}
use Rattle.xs_components.specs.Tables.{Tables}
use Rattle.xs_components.specs.declared.common.TypeId.{TypeId}
use Rattle.xs_components.specs.declared.common.TypeId.TheVariants.{AnyType, Builtin, Simple, Complex}
use Rattle.component_references.specs.Heights.{type_height, IsType, IsLower}
use Rattle.component_references.specs.Ranked.{IsRanked}
use Rattle.type_derivation.specs.Derives.{members_of, is_simple}
use Rattle.type_derivation.specs.Within.{IsWithin, itself, inside, Marks, IsMarked, AreWithin, IsNothing, IsPut, simples_with, BuiltinsWith, fresh_members}
use Rattle.type_derivation.proofs.MemberLaws.{most_members, most-is, members-lower}

-- a type that is within the base
pub record Waits (t : Tables) (base x : TypeId) : Type 0 where
  pub within : IsWithin t base x
  pub there : IsType t x

-- marks so far: what is marked is within the base, and its simple members are marked or wait
pub record IsSpread (t : Tables) (base : TypeId) (marks : Marks) (todo : List TypeId) : Type 0 where
  pub len : length marks.simples ≡ length t.simples.parts
  pub waits : All (Waits t base) todo
  pub sound : (x : TypeId) → IsType t x → IsMarked marks x → IsWithin t base x
  pub closed : (x m : TypeId) → IsType t x → IsMarked marks x → Contains (members_of t x) m → is_simple m ≡ true → IsMarked marks m ⊎ Contains todo m
  pub begun : is_simple base ≡ true → IsMarked marks base ⊎ Contains todo base

abbrev one_if_not : Bool → ℕ
one_if_not true = 0
one_if_not false = 1

-- how much is left to do
abbrev pub left : Tables → Marks → List TypeId → ℕ
left t marks todo = sum_by one_if_not marks.simples * (most_members t.simples.parts + 1) + length todo

-- a member of what is within is within
within-more : (t : Tables) (base x m : TypeId) → IsWithin t base x → Contains (members_of t x) m → IsWithin t base m
within-more t _ _ m (itself x) c = inside x m m c (itself m)
within-more t _ _ m (inside base n x d w) c = inside base n m d (within-more t n x m w c)

-- what changes where a type is put to the marks, and some of its members wait
record Grows (t : Tables) (marks marks' : Marks) (todo todo' : List TypeId) (x : TypeId) : Type 0 where
  grown : (y : TypeId) → IsMarked marks y → IsMarked marks' y
  news : (y : TypeId) → IsMarked marks' y → IsMarked marks y ⊎ (y ≡ x)
  here : is_simple x ≡ true → IsMarked marks' x
  kept : (y : TypeId) → Contains todo y → Contains todo' y
  fresh : IsMarked marks x ⊎ ((m : TypeId) → Contains (members_of t x) m → Contains todo' m)

module _ (t : Tables) (base : TypeId) (marks marks' : Marks) (todo todo' : List TypeId) (x : TypeId) (is : IsSpread t base marks (todo ++ x ∷ [])) (grows : Grows t marks marks' todo todo' x) where
  last : Waits t base x
  last = All-contains (Waits t base) (todo ++ x ∷ []) x is.waits (Contains-append_right todo (x ∷ []) x (zero, omega arith, refl))

  on : (z : TypeId) → is_simple z ≡ true → IsMarked marks z ⊎ Contains (todo ++ x ∷ []) z → IsMarked marks' z ⊎ Contains todo' z
  on z s (inl m) = inl (grows.grown z m)
  on z s (inr c) = elim (Contains-push_cases todo x z c) [
    | inl c' ↦ inr (grows.kept z c')
    | inr same ↦ inl (subst (IsMarked marks') same (grows.here (subst (λ v. is_simple v ≡ true) (sym same) s)))
  ]

  closed-new : (y m : TypeId) → IsType t y → IsMarked marks' y → Contains (members_of t y) m → is_simple m ≡ true → IsMarked marks' m ⊎ Contains todo' m
  closed-new y m i mark c s = elim (grows.news y mark) [
    | inl old ↦ on m s (is.closed y m i old c s)
    | inr same ↦ elim grows.fresh [
      | inl old ↦ on m s (is.closed x m last.there old (subst (λ v. Contains (members_of t v) m) same c) s)
      | inr all ↦ inr (all m (subst (λ v. Contains (members_of t v) m) same c))
    ]
  ]

  grows-spread : length marks'.simples ≡ length t.simples.parts → All (Waits t base) todo' → IsSpread t base marks' todo'
  grows-spread len waits = record {
    len = len;
    waits = waits;
    sound = λ y i m. elim (grows.news y m) [ inl old ↦ is.sound y i old | inr same ↦ subst (IsWithin t base) (sym same) last.within ];
    closed = closed-new;
    begun = λ s. on base s (is.begun s);
  }

-- what a step of the walk does
pub record Steps (t : Tables) (base : TypeId) (marks marks' : Marks) (todo todo' : List TypeId) (x : TypeId) : Type 0 where
  pub spread : IsSpread t base marks' todo'
  pub fewer : left t marks' todo' < left t marks (todo ++ x ∷ [])

pub empty : {X : Type 0} (xs : List X) → length xs ≡ 0 → xs ≡ []
empty [] e = refl
empty (x ∷ xs) e = absurd (omega (arith, e))

same-marks : (one other : Marks) → one.base ≡ other.base → one.simples ≡ other.simples → one.builtins ≡ other.builtins → one ≡ other
same-marks one other h a b = rw (h, a, b) refl

module _ (t : Tables) (ranked : IsRanked t) (base : TypeId) (marks : Marks) (todo : List TypeId) where
  others : (x : TypeId) → All (Waits t base) (todo ++ x ∷ []) → All (Waits t base) todo
  others x all = (All-pop (Waits t base) (todo ++ x ∷ []) todo (Some x) refl all).0

  same-fewer : (x : TypeId) (simples : List Bool) → sum_by one_if_not simples ≡ sum_by one_if_not marks.simples → (builtins : List Built) → left t (record { base = marks.base; simples = simples; builtins = builtins }) (todo ++ []) < left t marks (todo ++ x ∷ [])
  same-fewer x simples e builtins = omega (arith, ap (λ k. k * (most_members t.simples.parts + 1)) e, length-append todo [], length-append todo (x ∷ []))

  none-kept : (y : TypeId) → Contains todo y → Contains (todo ++ []) y
  none-kept y c = Contains-append_left todo [] y c

  none-waits : (x : TypeId) → All (Waits t base) (todo ++ x ∷ []) → All (Waits t base) (todo ++ [])
  none-waits x all = All-append (Waits t base) todo [] (others x all) (All-nil (Waits t base))

  -- a built-in type
  step-builtin : (b : Built) (builtins : List Built) → IsPut marks.builtins b builtins → IsSpread t base marks (todo ++ Builtin b ∷ []) → Steps t base marks (record { base = marks.base; simples = marks.simples; builtins = builtins }) todo (todo ++ []) (Builtin b)
  step-builtin b builtins put is = record { spread = grows-spread t base marks new todo (todo ++ []) (Builtin b) is grows is.len (none-waits (Builtin b) is.waits); fewer = same-fewer (Builtin b) marks.simples refl builtins }
    where
      new : Marks
      new = record { base = marks.base; simples = marks.simples; builtins = builtins }

      grown : (y : TypeId) → IsMarked marks y → IsMarked new y
      grown AnyType m = m
      grown (Complex id) m = m
      grown (Simple id) m = m
      grown (Builtin c) m = (put c).1 (inl m)

      built-news : (c : Built) → Contains marks.builtins c ⊎ (c ≡ b) → IsMarked marks (Builtin c) ⊎ (Builtin c ≡ Builtin b)
      built-news c (inl m) = inl m
      built-news c (inr e) = inr (ap Builtin e)

      news : (y : TypeId) → IsMarked new y → IsMarked marks y ⊎ (y ≡ Builtin b)
      news AnyType m = inl m
      news (Complex id) m = inl m
      news (Simple id) m = inl m
      news (Builtin c) m = built-news c ((put c).0 m)

      empty : (m : TypeId) → Contains [] m → Contains (todo ++ []) m
      empty m c = absurd (omega (arith, c.1))

      grows : Grows t marks new todo (todo ++ []) (Builtin b)
      grows = record { grown = grown; news = news; here = λ s. (put b).1 (inr refl); kept = none-kept; fresh = inr empty }

  -- a type that is not simple
  step-other : (x : TypeId) → is_simple x ≡ false → members_of t x ≡ [] → IsSpread t base marks (todo ++ x ∷ []) → Steps t base marks marks todo (todo ++ []) x
  step-other x s none is = record { spread = grows-spread t base marks marks todo (todo ++ []) x is grows is.len (none-waits x is.waits); fewer = same-fewer x marks.simples refl marks.builtins }
    where
      empty : (m : TypeId) → Contains (members_of t x) m → Contains (todo ++ []) m
      empty m c = let d : Contains [] m = rw none at c in absurd (omega (arith, d.1))

      grows : Grows t marks marks todo (todo ++ []) x
      grows = record { grown = λ y m. m; news = λ y m. inl m; here = λ r. absurd (true≢false (sym r ∙ s)); kept = none-kept; fresh = inr empty }

  module _ (id : ℕ) (is : IsSpread t base marks (todo ++ Simple id ∷ [])) where
    abbrev x : TypeId
    x = Simple id

    abbrev new : Marks
    new = record { base = marks.base; simples = set marks.simples id true; builtins = marks.builtins }

    popped : Waits t base x
    popped = All-contains (Waits t base) (todo ++ x ∷ []) x is.waits (Contains-append_right todo (x ∷ []) x (zero, omega arith, refl))

    pub popped-there : IsType t x
    popped-there = popped.there

    id-there : id < length marks.simples
    id-there = omega (arith, popped.there, is.len)

    grown : (y : TypeId) → IsMarked marks y → IsMarked new y
    grown AnyType m = m
    grown (Complex k) m = m
    grown (Builtin b) m = m
    grown (Simple k) m = elim (cases_eq k id) [
      | inl same ↦ subst (λ j. get_or (set marks.simples id true) j false ≡ true) (sym same) (get_or-set_same marks.simples id true false id-there)
      | inr other ↦ get_or-set_other marks.simples id k true false other ∙ m
    ]

    news : (y : TypeId) → IsMarked new y → IsMarked marks y ⊎ (y ≡ x)
    news AnyType m = inl m
    news (Complex k) m = inl m
    news (Builtin b) m = inl m
    news (Simple k) m = elim (cases_eq k id) [
      | inl same ↦ inr (ap Simple same)
      | inr other ↦ inl (sym (get_or-set_other marks.simples id k true false other) ∙ m)
    ]

    here : IsMarked new x
    here = get_or-set_same marks.simples id true false id-there

    len : length new.simples ≡ length t.simples.parts
    len = length-set marks.simples id true ∙ is.len

    -- a simple type that was marked
    old-step : get_or marks.simples id false ≡ true → Steps t base marks new todo (todo ++ []) x
    old-step e = record { spread = grows-spread t base marks new todo (todo ++ []) x is grows len (none-waits x is.waits); fewer = same-fewer x new.simples same marks.builtins }
      where
        grows : Grows t marks new todo (todo ++ []) x
        grows = record { grown = grown; news = news; here = λ s. here; kept = none-kept; fresh = inl e }

        same : sum_by one_if_not new.simples ≡ sum_by one_if_not marks.simples
        same = let law = sum_by-set one_if_not marks.simples id true false id-there in omega (arith, law, ap one_if_not e)

    -- a simple type that was not
    new-step : get_or marks.simples id false ≡ false → Steps t base marks new todo (todo ++ members_of t x) x
    new-step e = record { spread = grows-spread t base marks new todo (todo ++ members_of t x) x is grows len waits; fewer = fewer }
      where
        grows : Grows t marks new todo (todo ++ members_of t x) x
        grows = record { grown = grown; news = news; here = λ s. here; kept = λ y c. Contains-append_left todo (members_of t x) y c; fresh = inr (λ m c. Contains-append_right todo (members_of t x) m c) }

        member : (m : TypeId) → Contains (members_of t x) m → Waits t base m
        member m c = record { within = within-more t base x m popped.within c; there = (All-contains (IsLower t (type_height t x)) (members_of t x) m (members-lower t ranked x) c).there }

        waits : All (Waits t base) (todo ++ members_of t x)
        waits = All-append (Waits t base) todo (members_of t x) (others x is.waits)
            (All-weaker (Contains (members_of t x)) (Waits t base) member (members_of t x) (All-contains_itself (members_of t x)))

        fewer : left t new (todo ++ members_of t x) < left t marks (todo ++ x ∷ [])
        fewer =
            let law = sum_by-set one_if_not marks.simples id true false id-there in
            let less : sum_by one_if_not marks.simples ≡ sum_by one_if_not new.simples + 1 = omega (arith, law, ap one_if_not e) in
            omega (arith, ap (λ k. k * (most_members t.simples.parts + 1)) less, length-append todo (members_of t x), length-append todo (x ∷ []), most-is t id)

  abbrev fresh_if : Bool → ℕ → List TypeId
  fresh_if true id = []
  fresh_if false id = members_of t (Simple id)

  step-simple : (id : ℕ) → (b : Bool) → get_or marks.simples id false ≡ b → IsSpread t base marks (todo ++ Simple id ∷ []) → Steps t base marks (record { base = marks.base; simples = set marks.simples id true; builtins = marks.builtins }) todo (todo ++ fresh_if b id) (Simple id)
  step-simple id true e is = old-step id is e
  step-simple id false e is = new-step id is e

  -- a type is put to the marks, and its members wait if it was not there
  pub steps : (x : TypeId) (marks' : Marks) (todo' : List TypeId) → IsSpread t base marks (todo ++ x ∷ []) → marks'.base ≡ marks.base → marks'.simples ≡ simples_with marks.simples x → BuiltinsWith marks.builtins x marks'.builtins → todo' ≡ todo ++ fresh_members t marks.simples x → Steps t base marks marks' todo todo' x
  steps AnyType marks' todo' is h a b c = rw c (subst (λ m. Steps t base marks m todo (todo ++ []) AnyType) (same-marks marks marks' (sym h) (sym a) (sym b)) (step-other AnyType refl refl is))
  steps (Complex id) marks' todo' is h a b c = rw c (subst (λ m. Steps t base marks m todo (todo ++ []) (Complex id)) (same-marks marks marks' (sym h) (sym a) (sym b)) (step-other (Complex id) refl refl is))
  steps (Builtin k) marks' todo' is h a b c = rw c (subst (λ m. Steps t base marks m todo (todo ++ []) (Builtin k)) (same-marks (record { base = marks.base; simples = marks.simples; builtins = marks'.builtins }) marks' (sym h) (sym a) refl) (step-builtin k marks'.builtins b is))
  steps (Simple id) marks' todo' is h a b c = on (get_or marks.simples id false) refl
    where
      on : (m : Bool) → get_or marks.simples id false ≡ m → Steps t base marks marks' todo todo' (Simple id)
      on true e = rw (c, e) (subst (λ m. Steps t base marks m todo (todo ++ []) (Simple id)) (same-marks (record { base = marks.base; simples = set marks.simples id true; builtins = marks.builtins }) marks' (sym h) (sym a) (sym b)) (step-simple id true e is))
      on false e = rw (c, e) (subst (λ m. Steps t base marks m todo (todo ++ members_of t (Simple id)) (Simple id)) (same-marks (record { base = marks.base; simples = set marks.simples id true; builtins = marks.builtins }) marks' (sym h) (sym a) (sym b)) (step-simple id false e is))

module _ (t : Tables) (base : TypeId) (marks : Marks) where
  -- nothing is marked, and the base waits
  pub spread-begins : IsType t base → IsNothing (length t.simples.parts) base marks → IsSpread t base marks (base ∷ [])
  spread-begins is nothing = record {
    len = nothing.len;
    waits = All-cons (Waits t base) base [] record { within = itself base; there = is } (All-nil (Waits t base));
    sound = λ x i m. absurd (nothing.none x m);
    closed = λ x m i mark c s. absurd (nothing.none x mark);
    begun = λ s. inr (zero, omega arith, refl);
  }

  -- what has members is simple
  has-simple : (b m : TypeId) → Contains (members_of t b) m → is_simple b ≡ true
  has-simple AnyType m c = absurd (omega (arith, c.1))
  has-simple (Complex id) m c = absurd (omega (arith, c.1))
  has-simple (Builtin b) m c = refl
  has-simple (Simple id) m c = refl

  within-simple : (b x : TypeId) → is_simple x ≡ true → IsWithin t b x → is_simple b ≡ true
  within-simple _ _ s (itself x) = s
  within-simple _ _ s (inside b m x c w) = has-simple b m c

  -- nothing waits any more
  pub spread-ends : IsRanked t → IsType t base → marks.base ≡ base → IsSpread t base marks [] → AreWithin t marks
  spread-ends ranked is of end = record { exact = λ x i s. (λ m. subst (λ b. IsWithin t b x) (sym of) (end.sound x i m), λ v. let w : IsWithin t base x = subst (λ b. IsWithin t b x) of v in on base x is s (settled base (end.begun (within-simple base x s w))) w) }
    where
      settled : (z : TypeId) → IsMarked marks z ⊎ Contains [] z → IsMarked marks z
      settled z (inl m) = m
      settled z (inr c) = absurd (omega (arith, c.1))

      on : (b x : TypeId) → IsType t b → is_simple x ≡ true → IsMarked marks b → IsWithin t b x → IsMarked marks x
      on _ _ i s m (itself x) = m
      on _ _ i s m (inside b c x d w) =
          on c x (All-contains (IsLower t (type_height t b)) (members_of t b) c (members-lower t ranked b) d).there s
          (settled c (end.closed b c i m d (within-simple c x s w))) w
