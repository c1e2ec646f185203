-- What a visit does to what is held.
use Rattle.std.proofs.Common.{◌≡◌, ◌≢◌, ℕ, zero, suc, ◌+◌, ◌*◌, ◌-◌, ◌<◌, ◌≤◌, max, ◌⊎◌, inl, inr, List, [], ◌∷◌, ◌++◌, Bool, true, false, length, replicate, length-append, map, take, set, get_or, refl, sym, ap, ◌∙◌, subst, arith, length-set}
use Rattle.std.specs.Prelude.{All, Contains}
use Rattle.std.proofs.lemmas.Bool.{cases_eq, cases_lt, true≢false}
use Rattle.std.proofs.lemmas.List.{get_or_default, get_or_append_left, get_or_at, get_or-append-add, get_or-map, get_or-set_same, get_or-set_other, length-map, take-append-le, take_at}
use Rattle.std.proofs.lemmas.List.Sums.{sum_by-set}
use Rattle.std.proofs.lemmas.List.Elements.{All-nil, All-cons, All-append, All-head, All-tail, All-push, All-map, All-weaker, All-get_or, All-contains_itself, All-same, All-from_get_or, Contains-push, Contains-append_left, Contains-get_or}
use Rattle.component_references.specs.NumberedCircles.{refs_of, IsWithin, Leads, directly, further}
use Rattle.component_references.specs.inside.Orders.{AreBehind, IsInOrder}
use Rattle.component_references.specs.inside.Visits.{waiting, state_of, Held, IsVisit, one_if_new, news, widest, left, Steps, ArePlaced}
use Rattle.component_references.specs.declared.visiting.State.{State}
use Rattle.component_references.specs.declared.visiting.State.TheVariants.{New, Open, Done}
use Rattle.component_references.specs.declared.visiting.Visit.{Visit}

-- the references that were read
pub refs_of_read : (refs : List (List ℕ)) (x : ℕ) (xs ys : List ℕ) → x < length refs → ys ≡ xs → xs ≡ get_or refs x xs → ys ≡ refs_of refs x
refs_of_read refs x xs ys h e is = e ∙ is ∙ get_or_default refs x xs [] h

All-left : (P : Visit → Type 0) (xs ys : List Visit) → All P (xs ++ ys) → All P xs
All-left P [] ys h = All-nil P
All-left P (x ∷ xs) ys h = All-cons P x xs (All-head P x (xs ++ ys) h) (All-left P xs ys (All-tail P x (xs ++ ys) h))

All-drop-left : (P : Visit → Type 0) (xs ys : List Visit) → All P (xs ++ ys) → All P ys
All-drop-left P [] ys h = h
All-drop-left P (x ∷ xs) ys h = All-drop-left P xs ys (All-tail P x (xs ++ ys) h)

length-push : {X : Type 0} (xs : List X) (x : X) → length (xs ++ x ∷ []) ≡ length xs + 1
length-push xs x = simp length-append (omega arith)

length-waiting : (xs : List ℕ) → length (map waiting xs) ≡ length xs
length-waiting xs = simp length-map

-- what was held is held, where the last visit's part is in the order now
held-drop : (order more : List ℕ) (todo : List Visit) (v : Visit) (j z : ℕ) → ((x : ℕ) → Contains order x → Contains more x) → Contains more v.part → Held order (todo ++ v ∷ []) j z → Held more todo j z
held-drop order more todo v j z keeps last (inl c) = inl (keeps z c)
held-drop order more todo v j z keeps last (inr h) = elim (cases_lt h.0 (length todo)) [
  | inl low ↦ inr (h.0, h.1, low, ap (λ (w : Visit). w.part) (sym (get_or_append_left todo (v ∷ []) (waiting 0) h.0 low)) ∙ h.3)
  | inr high ↦ (let n : length todo ≡ h.0 = omega (arith, h.2, length-push todo v) in
      let is : v.part ≡ z = ap (λ (w : Visit). w.part) (sym (get_or_at todo v [] (waiting 0) h.0 n)) ∙ h.3 in
      inl (subst (Contains more) is last))
]

-- what was held is held, where the last visit's part waits in its place
held-keep : (order : List ℕ) (todo : List Visit) (v w : Visit) (others : List Visit) (j z : ℕ) → w.part ≡ v.part → Held order (todo ++ v ∷ []) j z → Held order ((todo ++ w ∷ []) ++ others) j z
held-keep order todo v w others j z same (inl c) = inl c
held-keep order todo v w others j z same (inr h) = elim (cases_lt h.0 (length todo)) [
  | inl low ↦ inr (
    h.0,
    h.1,
    omega (arith, length-append (todo ++ w ∷ []) others, length-push todo w),
    ap (λ (u : Visit). u.part) (get_or_append_left (todo ++ w ∷ []) others (waiting 0) h.0 (omega (arith, length-push todo w)) ∙ get_or_append_left todo (w ∷ []) (waiting 0) h.0 low
        ∙ sym (get_or_append_left todo (v ∷ []) (waiting 0) h.0 low)) ∙ h.3,
  )
  | inr high ↦ (let n : length todo ≡ h.0 = omega (arith, h.2, length-push todo v) in
      inr (
        h.0,
        h.1,
        omega (arith, length-append (todo ++ w ∷ []) others, length-push todo w),
        ap (λ (u : Visit). u.part) (get_or_append_left (todo ++ w ∷ []) others (waiting 0) h.0 (omega (arith, length-push todo w)) ∙ get_or_at todo w [] (waiting 0) h.0 n)
            ∙ same ∙ ap (λ (u : Visit). u.part) (sym (get_or_at todo v [] (waiting 0) h.0 n)) ∙ h.3,
      ))
]

module _ (refs : List (List ℕ)) (states : List State) (order : List ℕ) (todo : List Visit) (v : Visit) (is : IsVisit refs states order (todo ++ v ∷ [])) where
  pub last-there : v.part < length refs
  last-there = All-head (λ u. u.part < length refs) v [] (All-drop-left (λ u. u.part < length refs) todo (v ∷ []) is.there)

  -- one more in the order, all of whose references are in it
  behind-more : (p : ℕ) → All (Contains order) (refs_of refs p) → AreBehind refs (order ++ p ∷ [])
  behind-more p here i h = elim (cases_lt i (length order)) [
    | inl low ↦ (let read : get_or (order ++ p ∷ []) i 0 ≡ get_or order i 0 = get_or_append_left order (p ∷ []) 0 i low in
        let cut : take i (order ++ p ∷ []) ≡ take i order = take-append-le i order (p ∷ []) (omega arith) in
        rw (read, cut) (is.behind i low))
    | inr high ↦ (let n : length order ≡ i = omega (arith, length-push order p) in
        let read : get_or (order ++ p ∷ []) i 0 ≡ p = get_or_at order p [] 0 i n in
        let cut : take i (order ++ p ∷ []) ≡ order = take_at order (p ∷ []) i n in
        rw (read, cut) here)
  ]

  -- an entered part's references are in the order when nothing is above it
  refs-in : v.entered ≡ true → All (Contains order) (refs_of refs v.part)
  refs-in e =
      let read : get_or (todo ++ v ∷ []) (length todo) v ≡ v = get_or_at todo v [] v (length todo) refl in
      let owed = is.owed (length todo) v (omega (arith, length-push todo v)) (ap (λ (u : Visit). u.entered) read ∙ e) in
      All-weaker (Held order (todo ++ v ∷ []) (suc (length todo))) (Contains order) at_top (refs_of refs v.part) (rw read at owed)
    where
      at_top : (z : ℕ) → Held order (todo ++ v ∷ []) (suc (length todo)) z → Contains order z
      at_top z (inl c) = c
      at_top z (inr h) = absurd (omega (arith, h.1, h.2, length-push todo v))

  owed-left : (more : List ℕ) → ((x : ℕ) → Contains order x → Contains more x) → Contains more v.part → (j : ℕ) (d : Visit) → j < length todo → (get_or todo j d).entered ≡ true → All (Held more todo (suc j)) (refs_of refs (get_or todo j d).part)
  owed-left more keeps last j d h e =
      let read : get_or (todo ++ v ∷ []) j d ≡ get_or todo j d = get_or_append_left todo (v ∷ []) d j h in
      let owed = rw read at (is.owed j d (omega (arith, length-push todo v)) (ap (λ (u : Visit). u.entered) read ∙ e)) in
      All-weaker (Held order (todo ++ v ∷ []) (suc j)) (Held more todo (suc j)) (λ z. held-drop order more todo v (suc j) z keeps last) (refs_of refs (get_or todo j d).part) owed

  there-left : All (λ u. u.part < length refs) todo
  there-left = All-left (λ u. u.part < length refs) todo (v ∷ []) is.there

  abbrev at : ℕ → Visit
  at k = get_or (todo ++ v ∷ []) k (waiting 0)

  at-low : (k : ℕ) → k < length todo → at k ≡ get_or todo k (waiting 0)
  at-low k h = get_or_append_left todo (v ∷ []) (waiting 0) k h

  at-last : at (length todo) ≡ v
  at-last = get_or_at todo v [] (waiting 0) (length todo) refl

  low-or-last : (k : ℕ) → k < length (todo ++ v ∷ []) → (k < length todo) ⊎ (at k ≡ v)
  low-or-last k h = elim (cases_lt k (length todo)) [ inl low ↦ inl low | inr high ↦ (let n : k ≡ length todo = omega (arith, length-push todo v) in inr (ap at n ∙ at-last)) ]

  leads-left : (j k : ℕ) → j < k → k < length todo → (get_or todo j (waiting 0)).entered ≡ true → Leads refs (get_or todo j (waiting 0)).part (get_or todo k (waiting 0)).part
  leads-left j k jk h e =
      let rj : at j ≡ get_or todo j (waiting 0) = at-low j (omega arith) in
      let rk : at k ≡ get_or todo k (waiting 0) = at-low k h in
      let l = is.leads j k jk (omega (arith, length-push todo v)) (ap (λ (u : Visit). u.entered) rj ∙ e) in
      subst (λ (u : Visit). Leads refs (get_or todo j (waiting 0)).part u.part) rk (subst (λ (u : Visit). Leads refs u.part (at k).part) rj l)

  -- an entered part leads to the last
  leads-last : (j : ℕ) → j < length todo → (get_or todo j (waiting 0)).entered ≡ true → Leads refs (get_or todo j (waiting 0)).part v.part
  leads-last j h e =
      let rj : at j ≡ get_or todo j (waiting 0) = at-low j h in
      let l = is.leads j (length todo) h (omega (arith, length-push todo v)) (ap (λ (u : Visit). u.entered) rj ∙ e) in
      subst (λ (u : Visit). Leads refs (get_or todo j (waiting 0)).part u.part) at-last (subst (λ (u : Visit). Leads refs u.part (at (length todo)).part) rj l)

  abbrev Opened : List Visit → ℕ → Type 0
  Opened vs x = (k : ℕ) × (k < length vs) × ((get_or vs k (waiting 0)).entered ≡ true) × ((get_or vs k (waiting 0)).part ≡ x)

  -- an open part other than the last waits below
  open-left : (x : ℕ) → (x ≡ v.part → v.entered ≡ true → ⊥) → state_of states x ≡ Open → Opened todo x
  open-left x other f =
      let o = is.opened x f in
      elim (low-or-last o.0 o.1) [
        | inl low ↦ (o.0, low, ap (λ (u : Visit). u.entered) (sym (at-low o.0 low)) ∙ o.2, ap (λ (u : Visit). u.part) (sym (at-low o.0 low)) ∙ o.3)
        | inr last ↦ absurd (other (sym o.3 ∙ ap (λ (u : Visit). u.part) last) (sym (ap (λ (u : Visit). u.entered) last) ∙ o.2))
      ]

  -- an open part that is visited again comes back to itself
  pub circle : v.entered ≡ false → state_of states v.part ≡ Open → Leads refs v.part v.part
  circle e f =
      let o = open-left v.part (λ _ t. true≢false (sym t ∙ e)) f in
      subst (λ x. Leads refs x v.part) o.3 (leads-last o.0 o.1 o.2)

  pub exit : v.entered ≡ true → IsVisit refs (set states v.part Done) (order ++ v.part ∷ []) todo
  exit e = record {
    len = length-set states v.part Done ∙ is.len;
    there = there-left;
    order_there = All-push (λ x. x < length refs) order v.part is.order_there last-there;
    behind = behind-more v.part (refs-in e);
    done = done;
    owed = owed-left (order ++ v.part ∷ []) (λ x c. Contains-append_left order (v.part ∷ []) x c) (Contains-push order v.part);
    each = λ x h. held-drop order (order ++ v.part ∷ []) todo v 0 x (λ y c. Contains-append_left order (v.part ∷ []) y c) (Contains-push order v.part) (is.each x h);
    opened = opens;
    leads = leads-left;
  }
    where
      opens : (x : ℕ) → state_of (set states v.part Done) x ≡ Open → Opened todo x
      opens x f = elim (cases_eq x v.part) [
        | inl same ↦ (let here : state_of (set states v.part Done) v.part ≡ Done = get_or-set_same states v.part Done New (omega (arith, is.len, last-there)) in
            let there = subst (λ y. state_of (set states v.part Done) y ≡ Open) same f in
            let no : Done ≡ Open = sym here ∙ there in cc)
        | inr other ↦ open-left x (λ same _. other same) (sym (get_or-set_other states v.part x Done New other) ∙ f)
      ]

      done : (x : ℕ) → state_of (set states v.part Done) x ≡ Done → Contains (order ++ v.part ∷ []) x
      done x f = elim (cases_eq x v.part) [
        | inl same ↦ subst (Contains (order ++ v.part ∷ [])) (sym same) (Contains-push order v.part)
        | inr other ↦ Contains-append_left order (v.part ∷ []) x (is.done x (sym (get_or-set_other states v.part x Done New other) ∙ f))
      ]

  pub skip : v.entered ≡ false → state_of states v.part ≡ Done → IsVisit refs states order todo
  skip free e = record {
    len = is.len;
    there = there-left;
    order_there = is.order_there;
    behind = is.behind;
    done = is.done;
    owed = owed-left order (λ x c. c) (is.done v.part e);
    each = λ x h. held-drop order order todo v 0 x (λ y c. c) (is.done v.part e) (is.each x h);
    opened = λ x f. open-left x (λ _ t. true≢false (sym t ∙ free)) f;
    leads = leads-left;
  }

  abbrev in_place : Visit
  in_place = record { part = v.part; entered = true }

  abbrev after : List Visit
  after = (todo ++ in_place ∷ []) ++ map waiting (refs_of refs v.part)

  -- a reference waits above
  above : (z : ℕ) → Contains (refs_of refs v.part) z → Held order after (suc (length todo)) z
  above z c =
      let n = length-push todo in_place in
      inr (
        length (todo ++ in_place ∷ []) + c.0,
        omega (arith, n),
        omega (arith, n, c.1, length-append (todo ++ in_place ∷ []) (map waiting (refs_of refs v.part)), length-waiting (refs_of refs v.part)),
        ap (λ (u : Visit). u.part) (get_or-append-add (todo ++ in_place ∷ []) (map waiting (refs_of refs v.part)) c.0 (waiting 0) ∙ get_or-map waiting (refs_of refs v.part) c.0 z (waiting 0) c.1) ∙ c.2,
      )

  read-low : (j : ℕ) → j < length todo → get_or after j (waiting 0) ≡ get_or todo j (waiting 0)
  read-low j low = get_or_append_left (todo ++ in_place ∷ []) (map waiting (refs_of refs v.part)) (waiting 0) j (omega (arith, length-push todo in_place)) ∙ get_or_append_left todo (in_place ∷ []) (waiting 0) j low

  read-mid : get_or after (length todo) (waiting 0) ≡ in_place
  read-mid = get_or_append_left (todo ++ in_place ∷ []) (map waiting (refs_of refs v.part)) (waiting 0) (length todo) (omega (arith, length-push todo in_place)) ∙ get_or_at todo in_place [] (waiting 0) (length todo) refl

  read-high : (j : ℕ) (d : Visit) → suc (length todo) ≤ j → j < length after → (m : ℕ) × (m < length (refs_of refs v.part)) × (get_or after j d ≡ waiting (get_or (refs_of refs v.part) m 0))
  read-high j d high h =
      let m = j - length (todo ++ in_place ∷ []) in
      let sum : length (todo ++ in_place ∷ []) + m ≡ j = omega (arith, length-push todo in_place) in
      let short : m < length (refs_of refs v.part) = omega (arith, length-push todo in_place, length-append (todo ++ in_place ∷ []) (map waiting (refs_of refs v.part)), length-waiting (refs_of refs v.part)) in
      (m, short, ap (λ i. get_or after i d) (sym sum) ∙ get_or-append-add (todo ++ in_place ∷ []) (map waiting (refs_of refs v.part)) m d ∙ get_or-map waiting (refs_of refs v.part) m 0 d short)

  leads-to : (j y : ℕ) → j ≤ length todo → (get_or after j (waiting 0)).entered ≡ true → Contains (refs_of refs v.part) y → Leads refs (get_or after j (waiting 0)).part y
  leads-to j y h e c = elim (cases_lt j (length todo)) [
    | inl low ↦ (let rj = read-low j low in
        subst (λ (u : Visit). Leads refs u.part y) (sym rj) (further (get_or todo j (waiting 0)).part v.part y (leads-last j low (sym (ap (λ (u : Visit). u.entered) rj) ∙ e)) c))
    | inr up ↦ (let mid : j ≡ length todo = omega arith in
        let rm : get_or after j (waiting 0) ≡ in_place = ap (λ i. get_or after i (waiting 0)) mid ∙ read-mid in
        subst (λ (u : Visit). Leads refs u.part y) (sym rm) (directly v.part y c))
  ]

  leads-after : (j k : ℕ) → j < k → k < length after → (get_or after j (waiting 0)).entered ≡ true → Leads refs (get_or after j (waiting 0)).part (get_or after k (waiting 0)).part
  leads-after j k jk h e = elim (cases_lt k (length todo)) [
    | inl low ↦ (let rj = read-low j (omega arith) in
        rw (rj, read-low k low) (leads-left j k jk low (sym (ap (λ (u : Visit). u.entered) rj) ∙ e)))
    | inr high ↦ elim (cases_eq k (length todo)) [
      | inl same ↦ (let low : j < length todo = omega arith in
          let rj = read-low j low in
          let l : Leads refs (get_or todo j (waiting 0)).part v.part = leads-last j low (sym (ap (λ (u : Visit). u.entered) rj) ∙ e) in
          let rk : get_or after k (waiting 0) ≡ in_place = ap (λ i. get_or after i (waiting 0)) same ∙ read-mid in
          subst (λ (u : Visit). Leads refs (get_or after j (waiting 0)).part u.part) (sym rk) (subst (λ (u : Visit). Leads refs u.part v.part) (sym rj) l))
      | inr other ↦ (let r = read-high k (waiting 0) (omega arith) h in
          let c : Contains (refs_of refs v.part) (get_or (refs_of refs v.part) r.0 0) = Contains-get_or (refs_of refs v.part) r.0 0 r.1 in
          subst (λ (u : Visit). Leads refs (get_or after j (waiting 0)).part u.part) (sym r.2) (elim (cases_lt (length todo) j) [
            | inl past ↦ (let q = read-high j (waiting 0) (omega arith) (omega arith) in absurd (true≢false (sym e ∙ ap (λ (u : Visit). u.entered) q.2)))
            | inr up ↦ leads-to j (get_or (refs_of refs v.part) r.0 0) up e c
          ]))
    ]
  ]

  pub enter : IsWithin refs → IsVisit refs (set states v.part Open) order after
  enter within = record {
    len = length-set states v.part Open ∙ is.len;
    there = All-append (λ u. u.part < length refs) (todo ++ in_place ∷ []) (map waiting (refs_of refs v.part)) (All-push (λ u. u.part < length refs) todo in_place there-left last-there)
        (All-map (λ u. u.part < length refs) waiting (refs_of refs v.part) (within v.part));
    order_there = is.order_there;
    behind = is.behind;
    done = done;
    owed = owed;
    each = λ x h. held-keep order todo v in_place (map waiting (refs_of refs v.part)) 0 x refl (is.each x h);
    opened = opens;
    leads = leads-after;
  }
    where
      opens : (x : ℕ) → state_of (set states v.part Open) x ≡ Open → Opened after x
      opens x f = elim (cases_eq x v.part) [
        | inl same ↦ (length todo, omega (arith, length-append (todo ++ in_place ∷ []) (map waiting (refs_of refs v.part)), length-push todo in_place), ap (λ (u : Visit). u.entered) read-mid, ap (λ (u : Visit). u.part) read-mid ∙ sym same)
        | inr other ↦ (let o = open-left x (λ same _. other same) (sym (get_or-set_other states v.part x Open New other) ∙ f) in
            (o.0, omega (arith, o.1, length-append (todo ++ in_place ∷ []) (map waiting (refs_of refs v.part)), length-push todo in_place), ap (λ (u : Visit). u.entered) (read-low o.0 o.1) ∙ o.2, ap (λ (u : Visit). u.part) (read-low o.0 o.1) ∙ o.3))
      ]

      done : (x : ℕ) → state_of (set states v.part Open) x ≡ Done → Contains order x
      done x f = elim (cases_eq x v.part) [
        | inl same ↦ (let here : state_of (set states v.part Open) v.part ≡ Open = get_or-set_same states v.part Open New (omega (arith, is.len, last-there)) in
            let at = subst (λ y. state_of (set states v.part Open) y ≡ Done) same f in
            let no : Open ≡ Done = sym here ∙ at in cc)
        | inr other ↦ is.done x (sym (get_or-set_other states v.part x Open New other) ∙ f)
      ]

      owed : (j : ℕ) (d : Visit) → j < length after → (get_or after j d).entered ≡ true → All (Held order after (suc j)) (refs_of refs (get_or after j d).part)
      owed j d h e = elim (cases_lt j (length todo)) [
        | inl low ↦ (let read : get_or after j d ≡ get_or todo j d = get_or_append_left (todo ++ in_place ∷ []) (map waiting (refs_of refs v.part)) d j (omega (arith, length-push todo in_place)) ∙ get_or_append_left todo (in_place ∷ []) d j low in
            let old : get_or (todo ++ v ∷ []) j d ≡ get_or todo j d = get_or_append_left todo (v ∷ []) d j low in
            let was = rw old at (is.owed j d (omega (arith, length-push todo v)) (ap (λ (u : Visit). u.entered) (old ∙ sym read) ∙ e)) in
            rw read (All-weaker (Held order (todo ++ v ∷ []) (suc j)) (Held order after (suc j)) (λ z. held-keep order todo v in_place (map waiting (refs_of refs v.part)) (suc j) z refl) (refs_of refs (get_or todo j d).part) was))
        | inr high ↦ elim (cases_eq j (length todo)) [
          | inl same ↦ (let read : get_or after j d ≡ in_place = get_or_append_left (todo ++ in_place ∷ []) (map waiting (refs_of refs v.part)) d j (omega (arith, length-push todo in_place)) ∙ get_or_at todo in_place [] d j (sym same) in
              rw (read, same) (All-weaker (Contains (refs_of refs v.part)) (Held order after (suc (length todo))) above (refs_of refs v.part) (All-contains_itself (refs_of refs v.part))))
          | inr other ↦ (let m = j - length (todo ++ in_place ∷ []) in
              let at : length (todo ++ in_place ∷ []) + m ≡ j = omega (arith, length-push todo in_place) in
              let short : m < length (refs_of refs v.part) = omega (arith, length-push todo in_place, length-append (todo ++ in_place ∷ []) (map waiting (refs_of refs v.part)), length-waiting (refs_of refs v.part)) in
              let read : get_or after j d ≡ waiting (get_or (refs_of refs v.part) m 0) = ap (λ i. get_or after i d) (sym at) ∙ get_or-append-add (todo ++ in_place ∷ []) (map waiting (refs_of refs v.part)) m d ∙ get_or-map waiting (refs_of refs v.part) m 0 d short in
              absurd (true≢false (sym e ∙ ap (λ (u : Visit). u.entered) read)))
        ]
      ]

wide : (refs : List (List ℕ)) (x : ℕ) → length (get_or refs x []) ≤ widest refs
wide [] x = omega arith
wide (r ∷ rs) zero = omega arith
wide (r ∷ rs) (suc x) = omega (arith, wide rs x)

module _ (refs : List (List ℕ)) (states : List State) (order : List ℕ) (todo : List Visit) (v : Visit) (is : IsVisit refs states order (todo ++ v ∷ [])) where
  pub part-there : v.part < length states
  part-there = omega (arith, is.len, last-there refs states order todo v is)

  pub steps-exit : v.entered ≡ true → Steps refs states (todo ++ v ∷ []) (set states v.part Done) (order ++ v.part ∷ []) todo
  steps-exit e =
      let law = sum_by-set one_if_new states v.part Done New part-there in
      let fewer : news states ≡ news (set states v.part Done) + one_if_new (get_or states v.part New) = omega (arith, law) in
      record { visit = exit refs states order todo v is e; less = omega (arith, ap (λ n. n * (widest refs + 2)) fewer, length-push todo v) }

  pub steps-skip : v.entered ≡ false → state_of states v.part ≡ Done → Steps refs states (todo ++ v ∷ []) states order todo
  steps-skip free e = record { visit = skip refs states order todo v is free e; less = omega (arith, length-push todo v) }

  pub steps-enter : IsWithin refs → state_of states v.part ≡ New → Steps refs states (todo ++ v ∷ []) (set states v.part Open) order ((todo ++ record { part = v.part; entered = true } ∷ []) ++ map waiting (refs_of refs v.part))
  steps-enter within e =
      let law = sum_by-set one_if_new states v.part Open New part-there in
      let one : one_if_new (get_or states v.part New) ≡ 1 = ap one_if_new e in
      let fewer : news states ≡ news (set states v.part Open) + 1 = omega (arith, law, one) in
      record {
        visit = enter refs states order todo v is within;
        less = omega (arith, ap (λ n. n * (widest refs + 2)) fewer, length-push todo v, length-push todo record { part = v.part; entered = true }, length-append (todo ++ record { part = v.part; entered = true } ∷ []) (map waiting (refs_of refs v.part)), length-waiting (refs_of refs v.part), wide refs v.part);
      }

replicated : {X : Type 0} (n : ℕ) (x : X) → length (replicate n x) ≡ n
replicated zero x = refl
replicated (suc n) x = ap suc (replicated n x)

all-new : (n x : ℕ) → state_of (replicate n New) x ≡ New
all-new zero x = refl
all-new (suc n) zero = refl
all-new (suc n) (suc x) = all-new n x

pub visit-begins : (refs : List (List ℕ)) (todo : List Visit) → ArePlaced (length refs) todo → IsVisit refs (replicate (length refs) New) [] todo
visit-begins refs todo placed = record {
  len = replicated (length refs) New;
  there = placed.there;
  order_there = All-nil (λ x. x < length refs);
  behind = λ i h. absurd (omega arith);
  done = λ x e. let no : New ≡ Done = sym (all-new (length refs) x) ∙ e in cc;
  owed = λ j d h e. absurd (true≢false (sym e ∙ All-get_or (λ v. v.entered ≡ false) todo j d h placed.new));
  each = λ x h. inr (x, omega arith, omega (arith, placed.len), placed.each x h);
  opened = λ x e. let no : New ≡ Open = sym (all-new (length refs) x) ∙ e in cc;
  leads = λ j k jk h e. absurd (true≢false (sym e ∙ All-get_or (λ v. v.entered ≡ false) todo j (waiting 0) (omega arith) placed.new));
}

pub visit-ends : (refs : List (List ℕ)) (states : List State) (order : List ℕ) → IsVisit refs states order [] → IsInOrder refs order
visit-ends refs states order is = record { there = is.order_there; each = λ x h. at_end x (is.each x h); behind = is.behind }
  where
    at_end : (x : ℕ) → Held order [] 0 x → Contains order x
    at_end x (inl c) = c
    at_end x (inr h) = absurd (omega (arith, h.2))

pub empty : {X : Type 0} (xs : List X) → length xs ≡ 0 → xs ≡ []
empty [] h = refl
empty (x ∷ xs) h = absurd (omega arith)
