-- What is kept of a thing, and the log.
use Rattle.std.proofs.Common.{◌≡◌, ℕ, ◌≤◌, Bool, true, false, cond, not, ◌&&◌, ◌||◌, eqb, ltb, List, [], ◌∷◌, ◌++◌, Option, None, Some, IfSome, Result, Ok, Err, refl, sym, ap, ◌∙◌, subst, arith, true≢false, ⊎_elim}
use Rattle.std.proofs.lemmas.Bool.{cases_Bool, and_parts, and_left, and_right, and_from, eqb-true, eq-eqb, not_from_true, not_from_false}
use Rattle.std.specs.Bool.{then_some}
use Rattle.std.specs.Map.{lookup}
use Rattle.std.specs.Option.{MatchOption, IsSomeAnd, option_cmp}
use Rattle.std.specs.Ordering.{nat_cmp, ord_max}
use Rattle.std.specs.Result.{IsOk, OnOk}
use Rattle.std.specs.Cmp.{nat_cmp_is}
use Rattle.edit_history.specs.contracts.touch.KeyPartialEq.TheImpl as key_impl
use Rattle.edit_history.specs.declared.touched.Touched.{Touched}
use Rattle.edit_history.specs.declared.touch.Key.{Key}
use Rattle.edit_history.specs.declared.touch.Key.TheVariants.{Node, List as Children}
use Rattle.edit_history.specs.declared.touch.Touch.{Touch}
use Rattle.edit_history.specs.Turns.{Turn, turn, same_node, have_common, later, latest, stale}
use Rattle.edit_history.specs.Table.{Touches, same_key, touch_of, touches, is_by, IsLatest, StandFor, AreUpTo, IsTouched, touched_now, by_others, latest_by_others}
use Rattle.edit_history.proofs.Latest.{latest_alike, latest_either, latest_within, none_within, latest_of_none, latest_takes, latest_skips, if_after, latest_after, between, not_later}

-- whether a turn is by another author, and passes the test
abbrev pub by_another : ℕ → (Turn → Bool) → Turn → Bool
by_another author test t = not (is_by author t) && test t

-- what is kept tells the latest revision by another author
pub by_others_are : (o : Option Touch) (test : Turn → Bool) (log : List Turn) (author : ℕ) → IsLatest o test log → by_others author o ≡ latest (by_another author test) log
by_others_are None test log author none = sym (none_within (by_another author test) test (λ t h. (and_parts _ _ h).1) log none)
by_others_are (Some touch) test log author is = by (eqb touch.author author) refl
  where
    by : (b : Bool) → eqb touch.author author ≡ b → cond b touch.other (Some touch.revision) ≡ latest (by_another author test) log
    by true e = subst (λ (a : ℕ). touch.other ≡ latest (by_another a test) log) (eqb-true touch.author author e) (sym is.2)
    by false e =
        let another : (t : Turn) → (is_by touch.author t && test t) ≡ true → by_another author test t ≡ true = λ t h.
        let parts = and_parts _ _ h in
        and_from _ _ (not_from_false _ (ap (λ (a : ℕ). eqb a author) (eqb-true t.author touch.author parts.0) ∙ e)) parts.1 in
        sym (between (latest (λ t. is_by touch.author t && test t) log) (latest (by_another author test) log) (latest test log) touch.revision
        (latest_within (λ t. is_by touch.author t && test t) (by_another author test) another log)
        (latest_within (by_another author test) test (λ t h. (and_parts _ _ h).1) log)
        is.1 is.0)

-- a turn that touched nothing of it leaves it
pub skipped : (o : Option Touch) (test : Turn → Bool) (log : List Turn) (t : Turn) → test t ≡ false → IsLatest o test log → IsLatest o test (log ++ t ∷ [])
skipped None test log t misses none = latest_skips test log t misses ∙ none
skipped (Some touch) test log t misses is = (
  latest_skips test log t misses ∙ is.0,
  latest_skips (λ s. is_by touch.author s && test s) log t (and_right _ _ misses) ∙ is.1,
  latest_skips (λ s. not (is_by touch.author s) && test s) log t (and_right _ _ misses) ∙ is.2,
)

-- the latest of all that is kept is not later than this
kept_below : (o : Option Touch) (test : Turn → Bool) (log : List Turn) (n : ℕ) → IsLatest o test log → IfSome o (λ touch. touch.revision ≤ n) → (m : ℕ) → latest test log ≡ Some m → m ≤ n
kept_below None test log n none below m e = let h : None ≡ Some m = sym none ∙ e in cc
kept_below (Some touch) test log n is below m e = let h : Some touch.revision ≡ Some m = sym is.0 ∙ e in let same : touch.revision ≡ m = cc in subst (λ (k : ℕ). k ≤ n) same below

-- whether a turn is by this author, and passes the test
abbrev pub by_this : ℕ → (Turn → Bool) → Turn → Bool
by_this author test t = is_by author t && test t

-- a turn after all others that touched it
pub taken : (o : Option Touch) (test : Turn → Bool) (log : List Turn) (t : Turn) → test t ≡ true → IfSome o (λ touch. touch.revision ≤ t.revision) → IsLatest o test log
    → IsLatest (Some (touched_now o t.author t.revision)) test (log ++ t ∷ [])
taken o test log t hits below is = (
  latest_takes test log t hits ∙ not_later (latest test log) (latest test log) t.revision (latest_within test test (λ s h. h) log) (kept_below o test log t.revision is below),
  latest_takes (by_this t.author test) log t (and_from _ _ (eq-eqb t.author t.author refl) hits) ∙ not_later (latest (by_this t.author test) log) (latest test log) t.revision (latest_within (by_this t.author test) test (λ s h. (and_parts _ _ h).1) log) (kept_below o test log t.revision is below),
  latest_skips (by_another t.author test) log t (and_left _ _ (not_from_true _ (eq-eqb t.author t.author refl))) ∙ sym (by_others_are o test log t.author is),
)

-- what is kept after a turn, whether it touched it or not
pub noted : (o : Option Touch) (now : Option Touch) (test : Turn → Bool) (log : List Turn) (t : Turn) → now ≡ cond (test t) (Some (touched_now o t.author t.revision)) o
    → IfSome o (λ touch. touch.revision ≤ t.revision) → IsLatest o test log → IsLatest now test (log ++ t ∷ [])
noted o now test log t e below is =
    ⊎_elim
    (λ hits. subst (λ n. IsLatest n test (log ++ t ∷ [])) (sym (e ∙ ap (λ b. cond b (Some (touched_now o t.author t.revision)) o) hits)) (taken o test log t hits below is))
    (λ misses. subst (λ n. IsLatest n test (log ++ t ∷ [])) (sym (e ∙ ap (λ b. cond b (Some (touched_now o t.author t.revision)) o) misses)) (skipped o test log t misses is))
    (cases_Bool (test t))

-- the later of two is the greater one
later_is : (a b : Option ℕ) → ord_max (option_cmp nat_cmp) a b ≡ later a b
later_is None None = refl
later_is None (Some n) = refl
later_is (Some m) None = refl
later_is (Some m) (Some n) = grind (arith, nat_cmp_is n m)

-- what each thing has after a turn with these keys
abbrev pub AreNoted : Touches → Touches → Turn → Type 0
AreNoted old new t = (key : Key) → touch_of new key ≡ cond (touches key t) (Some (touched_now (touch_of old key) t.author t.revision)) (touch_of old key)

pub noted_all : (old new : Touches) (t : Turn) → AreNoted old new t → AreUpTo old t.revision → (log : List Turn) → StandFor old log → StandFor new (log ++ t ∷ [])
noted_all old new t are below log stands key = noted (touch_of old key) (touch_of new key) (touches key) log t (are key) (below key) (stands key)

-- the turns by another author that have something in common with these keys, on one side
either_side : (n : Bool) (a b : Bool) → (n && (a || b)) ≡ ((n && a) || (n && b))
either_side true a b = refl
either_side false a b = refl

no_node : (o : Option ℕ) → same_node o None ≡ false
no_node None = refl
no_node (Some m) = refl

-- the key of a side, where there is one
abbrev pub IsAt : (ℕ → Key) → Option ℕ → Option Key → Type 0
IsAt side None key = key ≡ None
IsAt side (Some n) key = key ≡ Some (side n)

-- on one side: the latest turn by another author that touched what is there
side_is : (table : Touches) (log : List Turn) → StandFor table log → (author : ℕ) (side : ℕ → Key) (of : Touched → Option ℕ) (n : Option ℕ) (key : Option Key)
    → ((m : ℕ) (t : Turn) → touches (side m) t ≡ same_node (of t.keys) (Some m)) → IsAt side n key
    → latest_by_others table author key ≡ latest (by_another author (λ t. same_node (of t.keys) n)) log
side_is table log stands author side of None key tests at =
    ap (latest_by_others table author) at
    ∙ sym (latest_of_none (by_another author (λ t. same_node (of t.keys) None)) log (λ t. and_right (not (is_by author t)) _ (no_node (of t.keys))))
side_is table log stands author side of (Some m) key tests at =
    ap (latest_by_others table author) at
    ∙ by_others_are (touch_of table (side m)) (touches (side m)) log author (stands (side m))
    ∙ latest_alike (by_another author (touches (side m))) (by_another author (λ t. same_node (of t.keys) (Some m))) log (λ t. ap (λ b. not (is_by author t) && b) (tests m t))

-- what the log says is what is kept says
pub stale_is : (table : Touches) (log : List Turn) → StandFor table log → (author seen : ℕ) (keys : Touched) (node list : Option Key)
    → IsAt Node keys.node node → IsAt Children keys.list list
    → if_after seen (later (latest_by_others table author node) (latest_by_others table author list)) ≡ stale log author seen keys
stale_is table log stands author seen keys node list is_node is_list =
    let nodes = side_is table log stands author Node (λ k. k.node) keys.node node (λ m t. refl) is_node in
    let lists = side_is table log stands author Children (λ k. k.list) keys.list list (λ m t. refl) is_list in
    ap (if_after seen) (
    (λ i. later (nodes i) (lists i))
    ∙ sym (latest_either (by_another author (λ t. same_node t.keys.node keys.node)) (by_another author (λ t. same_node t.keys.list keys.list)) log)
    ∙ sym (latest_alike (λ t. not (is_by author t) && have_common t.keys keys) (λ t. by_another author (λ s. same_node s.keys.node keys.node) t || by_another author (λ s. same_node s.keys.list keys.list) t) log (λ t. either_side (not (is_by author t)) (same_node t.keys.node keys.node) (same_node t.keys.list keys.list)))
    )
    ∙ sym (latest_after (λ t. not (is_by author t) && have_common t.keys keys) seen log)

-- keys are compared by what they are
eq_is : (j k : Key) → key_impl.eq-value.it j k ≡ same_key j k
eq_is (Node m) (Node n) = refl
eq_is (Node m) (Children n) = refl
eq_is (Children m) (Node n) = refl
eq_is (Children m) (Children n) = refl

found_is : (k : Key) (es : Touches) → lookup (key_impl.eq-value.it k) es ≡ lookup (same_key k) es
found_is k [] = refl
found_is k (e ∷ es) = let rest = found_is k es in λ i. cond (eq_is k e.0 i) (Some e.1) (rest i)

-- what is told of a thing that is kept
pub told : (es : Touches) (author : ℕ) (key : Option Key) (k : Key) (touch : Touch) → key ≡ Some k → Some touch ≡ lookup (key_impl.eq-value.it k) es → latest_by_others es author key ≡ cond (eqb touch.author author) touch.other (Some touch.revision)
told es author key k touch at is = ap (latest_by_others es author) at ∙ ap (by_others author) (sym (is ∙ found_is k es))

same_key-true : (j k : Key) → same_key j k ≡ true → j ≡ k
same_key-true (Node m) (Node n) e = ap Node (eqb-true m n e)
same_key-true (Node m) (Children n) e = absurd (true≢false (sym e))
same_key-true (Children m) (Node n) e = absurd (true≢false (sym e))
same_key-true (Children m) (Children n) e = ap Children (eqb-true m n e)

-- from what a map's call says
pub touched : (es fs : Touches) (key : Key) (author revision : ℕ) (was : Option Touch) (w : Touch) → was ≡ lookup (key_impl.eq-value.it key) es → w ≡ touched_now was author revision
    → ((q : Key) → lookup (key_impl.eq-value.it q) fs ≡ cond (key_impl.eq-value.it key q) (Some w) (lookup (key_impl.eq-value.it q) es))
    → IsTouched es fs key author revision
touched es fs key author revision was w found is updates q =
    sym (found_is q fs) ∙ updates q ∙ (λ i. cond (eq_is key q i) (Some (is i)) (found_is q es i)) ∙ by (same_key key q) refl
  where
    by : (b : Bool) → same_key key q ≡ b → cond b (Some (touched_now was author revision)) (lookup (same_key q) es) ≡ cond b (Some (touched_now (lookup (same_key q) es) author revision)) (lookup (same_key q) es)
    by true e = ap (λ o. Some (touched_now o author revision)) (found ∙ found_is key es ∙ ap (λ k. lookup (same_key k) es) (same_key-true key q e))
    by false e = refl

module _ (old new : Touches) (side : ℕ → Key) (author revision : ℕ) where
  -- the thing on a side was touched, where there is one
  abbrev pub IsTouchedAt : Option ℕ → Type 0
  IsTouchedAt None = new ≡ old
  IsTouchedAt (Some n) = IsTouched old new (side n) author revision

  on_side : ((n m : ℕ) → same_key (side n) (side m) ≡ eqb n m) → (o : Option ℕ) → IsTouchedAt o → (m : ℕ)
      → touch_of new (side m) ≡ cond (same_node o (Some m)) (Some (touched_now (touch_of old (side m)) author revision)) (touch_of old (side m))
  on_side same None is m = ap (λ t. touch_of t (side m)) is
  on_side same (Some n) is m = is (side m) ∙ ap (λ b. cond b (Some (touched_now (touch_of old (side m)) author revision)) (touch_of old (side m))) (same n m)

  on_other : (k : Key) → ((n : ℕ) → same_key (side n) k ≡ false) → (o : Option ℕ) → IsTouchedAt o → touch_of new k ≡ touch_of old k
  on_other k apart None is = ap (λ t. touch_of t k) is
  on_other k apart (Some n) is = is k ∙ ap (λ b. cond b (Some (touched_now (touch_of old k) author revision)) (touch_of old k)) (apart n)

-- both sides of a turn
pub both_sides : (old mid new : Touches) (author revision : ℕ) (keys : Touched) → IsTouchedAt old mid Node author revision keys.node → IsTouchedAt mid new Children author revision keys.list
    → AreNoted old new (turn revision author keys)
both_sides old mid new author revision keys one two (Node m) =
    on_other mid new Children author revision (Node m) (λ n. refl) keys.list two ∙ on_side old mid Node author revision (λ n k. refl) keys.node one m
both_sides old mid new author revision keys one two (Children m) =
    on_side mid new Children author revision (λ n k. refl) keys.list two m
    ∙ ap (λ o. cond (same_node keys.list (Some m)) (Some (touched_now o author revision)) o) (on_other old mid Node author revision (Children m) (λ n. refl) keys.node one)

pub at_some : (old new : Touches) (side : ℕ → Key) (author revision : ℕ) (o : Option ℕ) (n : ℕ) → o ≡ Some n → IsTouched old new (side n) author revision → IsTouchedAt old new side author revision o
at_some old new side author revision o n is touched = subst (IsTouchedAt old new side author revision) (sym is) touched

pub at_none : (old new : Touches) (side : ℕ → Key) (author revision : ℕ) (o : Option ℕ) → o ≡ None → new ≡ old → IsTouchedAt old new side author revision o
at_none old new side author revision o is same = subst (IsTouchedAt old new side author revision) (sym is) same

-- the key of a side, as `map` makes it
pub at_side : (side : ℕ → Key) (o : Option ℕ) (key : Option Key) → MatchOption o (key ≡ None) (λ n. IsSomeAnd key (λ k. k ≡ side n)) → IsAt side o key
at_side side None key h = h
at_side side (Some n) None h = absurd h
at_side side (Some n) (Some k) h = ap Some h

-- what was asked, from what each call says
pub asked : (table : Touches) (log : List Turn) → StandFor table log → (author seen : ℕ) (keys : Touched) (node list : Option Key) (a b m : Option ℕ)
    → IsAt Node keys.node node → IsAt Children keys.list list → a ≡ latest_by_others table author node → b ≡ latest_by_others table author list → m ≡ ord_max (option_cmp nat_cmp) a b
    → if_after seen m ≡ stale log author seen keys
asked table log stands author seen keys node list a b m is_node is_list is_a is_b is_m =
    ap (if_after seen) (is_m ∙ later_is a b ∙ (λ i. later (is_a i) (is_b i))) ∙ stale_is table log stands author seen keys node list is_node is_list

pub after_some : (seen n : ℕ) → then_some (ltb seen n) n ≡ if_after seen (Some n)
after_some seen n = by (ltb seen n)
  where
    by : (b : Bool) → then_some b n ≡ cond b (Some n) None
    by true = refl
    by false = refl

pub on_ok_at : {T E P : Type 0} (r : Result T E) → IsOk r → OnOk r P → P
on_ok_at (Ok x) ok h = h
on_ok_at (Err e) ok h = absurd (true≢false (sym ok))
