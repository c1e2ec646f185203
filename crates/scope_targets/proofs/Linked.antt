-- Child elements by a list of parents.
use Rattle.std.proofs.Common.{◌≡◌, ◌≢◌, ◌+◌, ◌<◌, ℕ, zero, suc, Bool, true, false, List, [], ◌∷◌, inl, inr, Option, None, Some, refl, sym, ap, subst, ◌∙◌, arith, true≢false}
use Rattle.std.proofs.lemmas.Bool.{eq-eqb, eqb-true}
use Rattle.identity_constraints.specs.Counting.{Links, Has, Lacks, Distinct, IsLinked}
use Rattle.identity_constraints.proofs.Bearers.{same_or_other}
use Rattle.key_records.specs.Tables.{KeyTuple, is_in_table, own, parent_in}
use Rattle.key_records.specs.Counted.{Counted, Feature, with_keys}
use Rattle.key_records.specs.References.{AreReferences, is_referred}
use Rattle.key_records.specs.Records.{AreRecords, own_in}
use Rattle.key_records.specs.declared.records.KeyRecords.{KeyRecords}
use Rattle.key_records.specs.declared.references.References.{References}
use Rattle.scope_targets.specs.Counted.{counted_all}
use Rattle.scope_targets.specs.Linked.{children_from, is_parent, links_by, with_child}
use Rattle.scope_targets.specs.Kept.{AreKept, Reparents, parent_of}
use Rattle.scope_targets.specs.declared.keys.CountedKeys.{CountedKeys}
use Rattle.scope_targets.proofs.Links.{records-still, unseen}

-- ---- the links

is-of : (q : Option ℕ) (p : ℕ) → is_parent q p ≡ true → q ≡ Some p
is-of None p e = absurd (true≢false (sym e))
is-of (Some r) p e = ap Some (eqb-true r p e)

-- a child among those from a number on is so many behind it
record IsBehind (n : ℕ) (qs : List (Option ℕ)) (p c : ℕ) : Type 0 where
  pub place : ℕ
  pub is : c ≡ n + place
  pub parent : parent_in qs place ≡ Some p

further : (n : ℕ) (q : Option ℕ) (qs : List (Option ℕ)) (p c : ℕ) → IsBehind (n + 1) qs p c → IsBehind n (q ∷ qs) p c
further n q qs p c b = let is = b.is in record { place = suc b.place; is = omega (arith, is); parent = b.parent }

behind : (n : ℕ) (qs : List (Option ℕ)) (p c : ℕ) → Has c (children_from n qs p) → IsBehind n qs p c
behind n [] p c h = absurd h
behind n (q ∷ qs) p c h = by (is_parent q p) refl h (behind (n + 1) qs p c)
  where
    first : c ≡ n → c ≡ n + 0
    first e = omega (arith, e)

    by : (b : Bool) → is_parent q p ≡ b → Has c (with_child b n (children_from (n + 1) qs p)) → (Has c (children_from (n + 1) qs p) → IsBehind (n + 1) qs p c) → IsBehind n (q ∷ qs) p c
    by true e (inl same) on = record { place = 0; is = first (sym same); parent = is-of q p e }
    by true e (inr later) on = further n q qs p c (on later)
    by false e later on = further n q qs p c (on later)

none-some : (p : ℕ) → None ≡ Some p → ⊥
none-some p e = cc

with-first : (b : Bool) (n : ℕ) (xs : List ℕ) → b ≡ true → Has n (with_child b n xs)
with-first true n xs e = inl refl
with-first false n xs e = absurd (true≢false (sym e))

with-more : (b : Bool) (n m : ℕ) (xs : List ℕ) → Has m xs → Has m (with_child b n xs)
with-more true n m xs h = inr h
with-more false n m xs h = h

there : (n : ℕ) (qs : List (Option ℕ)) (p k : ℕ) → parent_in qs k ≡ Some p → Has (n + k) (children_from n qs p)
there n [] p k e = absurd (none-some p e)
there n (q ∷ qs) p zero e =
    let here : n + 0 ≡ n = omega arith in
    subst (λ (m : ℕ). Has m (children_from n (q ∷ qs) p)) (sym here) (with-first (is_parent q p) n (children_from (n + 1) qs p) (ap (λ (o : Option ℕ). is_parent o p) e ∙ eq-eqb p p refl))
there n (q ∷ qs) p (suc k) e =
    let later : n + suc k ≡ (n + 1) + k = omega arith in
    subst (λ (m : ℕ). Has m (children_from n (q ∷ qs) p)) (sym later) (with-more (is_parent q p) n ((n + 1) + k) (children_from (n + 1) qs p) (there (n + 1) qs p k e))

lacks-those : (n : ℕ) (xs : List ℕ) → ((c : ℕ) → Has c xs → c ≢ n) → Lacks n xs
lacks-those n [] off = tt
lacks-those n (c ∷ cs) off = (off c (inl refl), lacks-those n cs (λ d h. off d (inr h)))

apart-from : (n : ℕ) (qs : List (Option ℕ)) (p : ℕ) → Distinct (children_from n qs p)
apart-from n [] p = tt
apart-from n (q ∷ qs) p = by (is_parent q p) (apart-from (n + 1) qs p)
  where
    off : (c : ℕ) → Has c (children_from (n + 1) qs p) → c ≢ n
    off c h same = let b = behind (n + 1) qs p c h in let is = b.is in omega (arith, is, same)

    by : (b : Bool) → Distinct (children_from (n + 1) qs p) → Distinct (with_child b n (children_from (n + 1) qs p))
    by true later = (lacks-those n (children_from (n + 1) qs p) off, later)
    by false later = later

pub linked-by : (parents : List (Option ℕ)) → IsLinked (links_by parents)
linked-by parents = record {
  down = λ p c h. let b = behind 0 parents p c h in let is = b.is in let same : c ≡ b.place = omega (arith, is) in ap (parent_in parents) same ∙ b.parent;
  up = λ p c e. let same : 0 + c ≡ c = omega arith in subst (λ (m : ℕ). Has m (children_from 0 parents p)) same (there 0 parents p c e);
  apart = λ p. apart-from 0 parents p;
}

-- ---- an element with another parent

records-as : (t : Links) (refs refs2 : References) (c c2 : Counted) (r r2 : KeyRecords) → refs ≡ refs2 → c ≡ c2 → r ≡ r2 → AreRecords t refs c r → AreRecords t refs2 c2 r2
records-as t refs refs2 c c2 r r2 e f g are =
    subst (λ (x : KeyRecords). AreRecords t refs2 c2 x) g (subst (λ (x : Counted). AreRecords t refs2 x r) f (subst (λ (x : References). AreRecords t x c r) e are))

none-own : (t : Links) (refs : References) (c : Counted) (r : KeyRecords) → AreRecords t refs c r → (n : ℕ) → ((k : ℕ) (x : Feature) → c n k x ≡ 0) → (y : KeyTuple) → own r.referred n y ≡ 0
none-own t refs c r are n none y = by (is_referred refs y.key) refl
  where
    by : (b : Bool) → is_referred refs y.key ≡ b → own r.referred n y ≡ 0
    by true e = subst (λ (b : Bool). own_in b r n y.key y.tuple ≡ 0) e (are.own_are n y.key y.tuple ∙ none y.key (with_keys y.tuple))
    by false e = are.bare n y.key y.tuple e

module _ (old new : CountedKeys) (n : ℕ) (parent : Option ℕ) (moves : Reparents old new n parent) (lower : (p : ℕ) → parent ≡ Some p → p < n) (among : ℕ → Bool) (is : among n ≡ true)
    (closed : (m c : ℕ) → among m ≡ true → parent_of old c ≡ Some m → among c ≡ true) (none : (m k : ℕ) (x : Feature) → among m ≡ true → counted_all old.targets m k x ≡ 0)
    (kept : AreKept (links_by old.parents.items) old) where
  before : (m p : ℕ) → parent_of new m ≡ Some p → p < m
  before m p e =
      elim (same_or_other m n) [
        | inl same ↦ subst (λ (k : ℕ). p < k) (sym same) (lower p (sym moves.here ∙ ap (parent_of new) (sym same) ∙ e))
        | inr off ↦ kept.parents.before m p (sym (moves.others m off) ∙ e)
      ]

  shows-none : (y : KeyTuple) → is_in_table old.records.referred n y ≡ false
  shows-none y =
      unseen (links_by old.parents.items) old.parents.items old.records.referred among (linked-by old.parents.items) kept.parents kept.records.settled
      (λ m h z. none-own (links_by old.parents.items) old.references (counted_all old.targets) old.records kept.records m (λ k x. none m k x h) z) closed n is y

  pub moved-kept : AreKept (links_by new.parents.items) new
  moved-kept = record {
    sound = subst (λ (x : References). AreReferences x) (sym moves.references) kept.sound;
    parents = record { parents_are = λ m. refl; before = before };
    records =
        records-as (links_by new.parents.items) old.references new.references (counted_all old.targets) (counted_all new.targets) old.records new.records (sym moves.references) (ap counted_all (sym moves.targets)) (sym moves.records)
        (records-still (links_by old.parents.items) (links_by new.parents.items) old.references (counted_all old.targets) old.records (linked-by old.parents.items) (linked-by new.parents.items)
        (λ m. elim (same_or_other m n) [ inl same ↦ inr (λ y. ap (λ (k : ℕ). is_in_table old.records.referred k y) same ∙ shows-none y) | inr off ↦ inl (sym (moves.others m off)) ]) kept.records);
  }

-- ---- an element with the parent that it had

module _ (old new : CountedKeys) (n : ℕ) (parent : Option ℕ) (moves : Reparents old new n parent) (same : parent ≡ parent_of old n) (kept : AreKept (links_by old.parents.items) old) where
  parent-still : (m : ℕ) → parent_of new m ≡ parent_of old m
  parent-still m =
      elim (same_or_other m n) [
        | inl is ↦ ap (parent_of new) is ∙ moves.here ∙ same ∙ ap (parent_of old) (sym is)
        | inr off ↦ moves.others m off
      ]

  pub same-kept : AreKept (links_by new.parents.items) new
  same-kept = record {
    sound = subst (λ (x : References). AreReferences x) (sym moves.references) kept.sound;
    parents = record { parents_are = λ m. refl; before = λ m p e. kept.parents.before m p (sym (parent-still m) ∙ e) };
    records =
        records-as (links_by new.parents.items) old.references new.references (counted_all old.targets) (counted_all new.targets) old.records new.records (sym moves.references) (ap counted_all (sym moves.targets)) (sym moves.records)
        (records-still (links_by old.parents.items) (links_by new.parents.items) old.references (counted_all old.targets) old.records (linked-by old.parents.items) (linked-by new.parents.items)
        (λ m. inl (sym (parent-still m))) kept.records);
  }
