-- What is counted, one element after another.
use Rattle.std.proofs.Common.{◌≡◌, ◌≢◌, ◌⊎◌, ◌+◌, ◌<◌, ◌≤◌, ℕ, Bool, true, false, List, [], length, take, get_or, Option, None, Some, inl, inr, refl, sym, ap, ◌∙◌, subst}
use Rattle.std.specs.Option.{option_map}
use Rattle.std.proofs.lemmas.Bool.{cases_eq, false≢true}
use Rattle.std.proofs.lemmas.List.{take_all}
use Rattle.std.proofs.lemmas.Option.{none-some}
use Rattle.std.specs.declared.alloc.Global.{Global}
use Rattle.std.specs.declared.vec.Vec.{Vec}
use Rattle.identity_constraints.specs.Counting.{Links, IsLinked}
use Rattle.key_records.specs.Tables.{parent_in}
use Rattle.scope_targets.specs.Targetings.{Targeting}
use Rattle.scope_targets.specs.Counted.{TargetSlots, targets_at}
use Rattle.scope_targets.specs.Kept.{AreKept, CanKeep, Reparents, parent_of, targets_of}
use Rattle.scope_targets.specs.Linked.{links_by}
use Rattle.scope_targets.specs.declared.keys.CountedKeys.{CountedKeys}
use Rattle.scope_targets.proofs.Linked.{linked-by, moved-kept, same-kept}
use Rattle.doc_nodes.specs.Nodes.{Nodes, Has}
use Rattle.doc_changes.specs.Held.{parent_at}
use Rattle.kept_slots.specs.Slots.{at}
use Rattle.child_lists.specs.from_kept_records.KeptElement.{KeptElement}
use Rattle.child_lists.specs.from_kept_records.Slots.{KeptSlots, IsKept}
use Rattle.compiled_schema.specs.declared.compiled.Compiled.{Compiled}
use Rattle.kept_targets.specs.Kept.{IsTargetOf, sign_at, sign_of}
use Rattle.kept_targets.specs.Counting.{Adopts, AreScopesAbove, Assigns, CanAdopt, Drops, Finds, Forgets, IsAtOrAbove, IsNoTarget, IsAtOrAbove as upward}
use Rattle.kept_targets.specs.declared.keys.ElementSign.{ElementSign}
use Rattle.kept_targets.specs.declared.keys.TargetKeys.{TargetKeys}
use Rattle.kept_targets.proofs.Among.{has-or-not, has-next, has-before, has-here, has-taken, has-get, is_left, from-left, to-left, is_right, from-right, to-right, from-other}
use Rattle.kept_targets.proofs.Uncounted.{none-all}

pub can-keep : (s : CountedKeys) → AreKept (links_by s.parents.items) s → CanKeep s
can-keep s kept = (links_by s.parents.items, linked-by s.parents.items, kept)

-- by the same parents
pub counting-still : (old new : CountedKeys) → new.parents ≡ old.parents → ((t : Links) → IsLinked t → AreKept t old → AreKept t new) → AreKept (links_by old.parents.items) old → AreKept (links_by new.parents.items) new
counting-still old new same keeps kept =
    subst (λ (v : Vec (Option ℕ) Global). AreKept (links_by v.items) new) (sym same) (keeps (links_by old.parents.items) (linked-by old.parents.items) kept)

-- ---- elements that are found anew

module _ (is_target : TargetKeys → ℕ → Type 0) where
  pub finds-none : (keys : TargetKeys) → Finds is_target keys keys []
  finds-none keys = record { here = λ n h. absurd h; others = λ n out. refl; parents = refl; signs = refl; references = refl }

  pub finds-all : (old new : TargetKeys) (nodes : List ℕ) (i : ℕ) → length nodes ≤ i → Finds is_target old new (take i nodes) → Finds is_target old new nodes
  finds-all old new nodes i past finds = subst (Finds is_target old new) (take_all i nodes past) finds

  module _ (goes : (one other : TargetKeys) (n : ℕ) → targets_of one.counted n ≡ targets_of other.counted n → is_target other n → is_target one n) (first old new : TargetKeys) (nodes : List ℕ) (i : ℕ) (l : i < length nodes)
      (before : Finds is_target first old (take i nodes)) (now : is_target new (get_or nodes i 0)) (others : (m : ℕ) → m ≢ get_or nodes i 0 → targets_of new.counted m ≡ targets_of old.counted m)
      (parents : new.counted.parents ≡ old.counted.parents) (signs : new.signs ≡ old.signs) (references : new.counted.references ≡ old.counted.references) where
    found-here : (m : ℕ) → Has m (take (i + 1) nodes) → is_target new m
    found-here m h =
        elim (cases_eq m (get_or nodes i 0)) [
          | inl e ↦ subst (is_target new) (sym e) now
          | inr off ↦ elim (has-next nodes i m l h) [ inl k ↦ goes new old m (others m off) (before.here m k) | inr e ↦ absurd (off (sym e)) ]
        ]

    other : (m : ℕ) → ¬ Has m (take (i + 1) nodes) → m ≢ get_or nodes i 0
    other m out e = out (subst (λ (k : ℕ). Has k (take (i + 1) nodes)) (sym e) (has-here nodes i l))

    pub finds-next : Finds is_target first new (take (i + 1) nodes)
    finds-next = record {
      here = found-here;
      others = λ m out. others m (other m out) ∙ before.others m (λ h. out (has-before nodes i m h));
      parents = parents ∙ before.parents;
      signs = signs ∙ before.signs;
      references = references ∙ before.references;
    }

pub no-target-goes : (one other : TargetKeys) (n : ℕ) → targets_of one.counted n ≡ targets_of other.counted n → IsNoTarget other n → IsNoTarget one n
no-target-goes one other n same none = same ∙ none

-- ---- elements that get parents and signs

module _ (parents : ℕ → Option ℕ) (signs : ℕ → Option ElementSign) where
  pub assigns-none : (keys : TargetKeys) → Assigns parents signs keys keys []
  assigns-none keys = record {
    parents_are = λ n h. absurd h;
    signs_are = λ n h. absurd h;
    other_parents = λ n out. refl;
    other_signs = λ n out. refl;
    targets = λ n. refl;
    references = refl;
  }

  pub assigns-all : (old new : TargetKeys) (nodes : List ℕ) (i : ℕ) → length nodes ≤ i → Assigns parents signs old new (take i nodes) → Assigns parents signs old new nodes
  assigns-all old new nodes i past assigns = subst (Assigns parents signs old new) (take_all i nodes past) assigns

  module _ (first old new : TargetKeys) (nodes : List ℕ) (i : ℕ) (l : i < length nodes) (before : Assigns parents signs first old (take i nodes)) where
    abbrev own : ℕ
    own = get_or nodes i 0

    here-or : {X : Type 0} (f g : ℕ → X) (h : ℕ → X) → f own ≡ g own → ((m : ℕ) → m ≢ own → f m ≡ h m) → ((m : ℕ) → Has m (take i nodes) → h m ≡ g m) → (m : ℕ) → Has m (take (i + 1) nodes) → f m ≡ g m
    here-or f g h mine others rest m has =
        elim (cases_eq m own) [
          | inl e ↦ ap f e ∙ mine ∙ ap g (sym e)
          | inr off ↦ elim (has-next nodes i m l has) [ inl k ↦ others m off ∙ rest m k | inr e ↦ absurd (off (sym e)) ]
        ]

    not-own : (m : ℕ) → ¬ Has m (take (i + 1) nodes) → m ≢ own
    not-own m out e = out (subst (λ (k : ℕ). Has k (take (i + 1) nodes)) (sym e) (has-here nodes i l))

    pub assigns-next : Reparents old.counted new.counted own (parents own) → at new.signs own ≡ signs own → ((m : ℕ) → m ≢ own → at new.signs m ≡ at old.signs m) → Assigns parents signs first new (take (i + 1) nodes)
    assigns-next moves sign others = record {
      parents_are = here-or (parent_of new.counted) parents (parent_of old.counted) moves.here moves.others before.parents_are;
      signs_are = here-or (at new.signs) signs (at old.signs) sign others before.signs_are;
      other_parents = λ m out. moves.others m (not-own m out) ∙ before.other_parents m (λ h. out (has-before nodes i m h));
      other_signs = λ m out. others m (not-own m out) ∙ before.other_signs m (λ h. out (has-before nodes i m h));
      targets = λ m. ap (λ (slots : TargetSlots). targets_at slots m) moves.targets ∙ before.targets m;
      references = moves.references ∙ before.references;
    }

-- ---- elements that are gone

module _ (keys : TargetKeys) (gone : List ℕ) (whole : (n c : ℕ) → Has n gone → parent_of keys.counted c ≡ Some n → Has c gone) where
  -- one below another that is gone is gone
  from-scope : (n s : ℕ) → IsAtOrAbove keys n s → Has s gone → Has n gone
  from-scope n s upward.itself h = h
  from-scope n s (upward.above p q is up) h = from-scope n p is (whole q p h up)

module _ (old mid : TargetKeys) (gone : List ℕ) (whole : (n c : ℕ) → Has n gone → parent_of old.counted c ≡ Some n → Has c gone) (takes : Finds IsNoTarget old mid gone) where
  parent-same : (c : ℕ) → parent_of mid.counted c ≡ parent_of old.counted c
  parent-same c = ap (λ (v : Vec (Option ℕ) Global). parent_in v.items c) takes.parents

  -- and none of them is the scope of a target
  pub none-there : AreScopesAbove old → (n m : ℕ) (a : Targeting) → Has n gone → Has a (targets_of mid.counted m) → a.scope ≡ n → ⊥
  none-there above n m a has h e =
      elim (has-or-not m gone) [
        | inl k ↦ subst (Has a) (takes.here m k) h
        | inr out ↦ out (from-scope old gone whole m a.scope (above m a (subst (Has a) (takes.others m out) h)) (subst (λ (k : ℕ). Has k gone) (sym e) has))
      ]

  pub whole-still : (n c : ℕ) → Has n gone → parent_of mid.counted c ≡ Some n → Has c gone
  whole-still n c has up = whole n c has (sym (parent-same c) ∙ up)

  pub forgets-all : (new : TargetKeys) → Drops mid new gone → Forgets old new gone
  forgets-all new drops = record {
    targets = λ n has. drops.targets n ∙ takes.here n has;
    parents = drops.parents_are;
    signs = drops.signs_are;
    other_targets = λ n out. drops.targets n ∙ takes.others n out;
    other_parents = λ n out. drops.other_parents n out ∙ parent-same n;
    other_signs = λ n out. drops.other_signs n out ∙ ap (λ (ss : List (Option ElementSign)). at ss n) takes.signs;
    references = drops.references ∙ takes.references;
  }

-- the next of them loses its parent
module _ (first old : TargetKeys) (gone : List ℕ) (i : ℕ) (l : i < length gone) (drops : Drops first old (take i gone))
    (none : (n m : ℕ) (a : Targeting) → Has n gone → Has a (targets_of first.counted m) → a.scope ≡ n → ⊥) (whole : (n c : ℕ) → Has n gone → parent_of first.counted c ≡ Some n → Has c gone) where
  abbrev among : ℕ → Bool
  among m = is_left (has-or-not m gone)

  closed : (m c : ℕ) → among m ≡ true → parent_of old.counted c ≡ Some m → among c ≡ true
  closed m c is up =
      to-left (has-or-not c gone)
      (elim (has-or-not c (take i gone)) [
        | inl k ↦ has-taken gone i c k
        | inr out ↦ whole m c (from-left (has-or-not m gone) is) (sym (drops.other_parents c out) ∙ up)
      ])

  pub drop-kept : (new : CountedKeys) → Reparents old.counted new (get_or gone i 0) None → AreKept (links_by old.counted.parents.items) old.counted → AreKept (links_by new.parents.items) new
  drop-kept new moves kept =
      moved-kept old.counted new (get_or gone i 0) None moves (λ p e. absurd (none-some p e)) among (to-left (has-or-not (get_or gone i 0) gone) (has-get gone i l)) closed
      (λ m k x is. none-all m k x old.counted.targets (λ n a h e. none m n a (from-left (has-or-not m gone) is) (subst (Has a) (drops.targets n) h) e)) kept

-- ---- elements that have come

module _ (ns : Nodes) (ks : KeptSlots) (first old : TargetKeys) (moved : List ℕ) (i : ℕ) (l : i < length moved) (adopts : Adopts ns ks first old (take i moved)) (can : CanAdopt ns first moved) where
  abbrev next : ℕ
  next = get_or moved i 0

  -- one of them that is kept with another parent
  abbrev fresh-by : (m : ℕ) → Has m moved ⊎ (¬ Has m moved) → Bool
  fresh-by m (inl h) = is_right (can m h)
  fresh-by m (inr out) = false

  abbrev fresh : ℕ → Bool
  fresh m = fresh-by m (has-or-not m moved)

  abbrev IsAlone : ℕ → Type 0
  IsAlone m = ((n : ℕ) (a : Targeting) → Has a (targets_of first.counted n) → (a.scope ≡ m → ⊥)) × ((c : ℕ) → parent_of first.counted c ≡ Some m → ⊥)

  is-alone : (m : ℕ) → fresh m ≡ true → IsAlone m
  is-alone m e = by (has-or-not m moved) e
    where
      by : (o : Has m moved ⊎ (¬ Has m moved)) → fresh-by m o ≡ true → IsAlone m
      by (inl h) e = from-right (can m h) e
      by (inr out) e = absurd (false≢true e)

  fresh-there : (c : ℕ) → Has c moved → (parent_of first.counted c ≡ parent_at ns c → ⊥) → fresh c ≡ true
  fresh-there c h off = by (has-or-not c moved)
    where
      by : (o : Has c moved ⊎ (¬ Has c moved)) → fresh-by c o ≡ true
      by (inl k) = to-right (can c k) off
      by (inr out) = absurd (out h)

  not-fresh : (c : ℕ) → Has c moved → fresh c ≡ false → parent_of first.counted c ≡ parent_at ns c
  not-fresh c h e = by (has-or-not c moved) e
    where
      by : (o : Has c moved ⊎ (¬ Has c moved)) → fresh-by c o ≡ false → parent_of first.counted c ≡ parent_at ns c
      by (inl k) e = from-other (can c k) e
      by (inr out) e = absurd (out h)

  fresh-closed : (m c : ℕ) → fresh m ≡ true → parent_of old.counted c ≡ Some m → fresh c ≡ true
  fresh-closed m c is up =
      let alone = (is-alone m is).1 in
      elim (has-or-not c (take i moved)) [
        | inl k ↦ fresh-there c (has-taken moved i c k) (λ same. alone c (same ∙ sym (adopts.parents_are c k) ∙ up))
        | inr out ↦ absurd (alone c (sym (adopts.other_parents c out) ∙ up))
      ]

  still-there : fresh next ≡ false → parent_at ns next ≡ parent_of old.counted next
  still-there e =
      elim (has-or-not next (take i moved)) [
        | inl k ↦ sym (adopts.parents_are next k)
        | inr out ↦ sym (adopts.other_parents next out ∙ not-fresh next (has-get moved i l) e)
      ]

  pub adopt-kept : (new : CountedKeys) → Reparents old.counted new next (parent_at ns next) → ((p : ℕ) → parent_at ns next ≡ Some p → p < next) → AreKept (links_by old.counted.parents.items) old.counted
      → AreKept (links_by new.parents.items) new
  adopt-kept new moves lower kept = by (fresh next) refl
    where
      by : (b : Bool) → fresh next ≡ b → AreKept (links_by new.parents.items) new
      by true e =
          moved-kept old.counted new next (parent_at ns next) moves lower fresh e fresh-closed
          (λ m k x is. none-all m k x old.counted.targets (λ n a h q. (is-alone m is).0 n a (subst (Has a) (adopts.targets n) h) q)) kept
      by false e = same-kept old.counted new next (parent_at ns next) moves (still-there e) kept

pub sign-kept : (ks : KeptSlots) (n : ℕ) (k : KeptElement) → IsKept ks n k → Some (sign_of k) ≡ sign_at ks n
sign-kept ks n k is = sym (ap (option_map sign_of) is)

-- is a target by what is kept of its targets alone
pub target-goes : (c : Compiled) (ns : Nodes) (ks : KeptSlots) (one other : TargetKeys) (n : ℕ) → targets_of one.counted n ≡ targets_of other.counted n → IsTargetOf c ns ks other n → IsTargetOf c ns ks one n
target-goes c ns ks one other n same is above below is_above is_below = same ∙ is above below is_above is_below
