-- Targets counted more and no more, one by one.
use Rattle.std.proofs.Common.{◌≡◌, ◌+◌, ◌<◌, ℕ, List, [], ◌∷◌, length, map, Option, None, Some, refl, sym, ap, subst, ◌∙◌, arith}
use Rattle.std.specs.declared.alloc.Global.{Global}
use Rattle.std.specs.declared.vec.Vec.{Vec}
use Rattle.identity_constraints.specs.Counting.{Links, IsLinked}
use Rattle.key_records.specs.Tables.{AreParents}
use Rattle.key_records.specs.Counted.{Counted, Feature, no_targets, plus}
use Rattle.key_records.specs.Records.{AreRecords}
use Rattle.key_records.specs.declared.records.KeyRecords.{KeyRecords}
use Rattle.key_records.specs.declared.records.KeyTree.{KeyTree}
use Rattle.kept_slots.specs.Slots.{at, Writes, weigh}
use Rattle.kept_slots.proofs.Sums.{written-sum}
use Rattle.scope_targets.specs.Found.{targeting_of}
use Rattle.scope_targets.specs.Targetings.{Targeting}
use Rattle.scope_targets.specs.declared.targetings.ElementTargeting.{ElementTargeting}
use Rattle.scope_targets.specs.Counted.{TargetSlots, counted_all, counted_in, items_of, listed, targets_at}

pub no_items : {X : Type 0} (xs : List X) → length xs ≡ 0 → xs ≡ []
no_items [] e = refl
no_items (x ∷ xs) e = cc

pub shorter : {X : Type 0} (xs rest : List X) (x : X) → xs ≡ x ∷ rest → length rest < length xs
shorter xs rest x e = let size = ap length e in omega (arith, size)

three : (a b c : ℕ) → a + b + c ≡ a + (b + c)
three a b c = omega arith

last-first : (a b c : ℕ) → a + (b + c) ≡ a + c + b
last-first a b c = omega arith

zero-right : (a : ℕ) → a + 0 ≡ a
zero-right a = omega arith

zero-left : (a : ℕ) → 0 + a ≡ a
zero-left a = omega arith

pub plus-none : (a : Counted) → plus a no_targets ≡ a
plus-none a = λ i n k x. zero-right (a n k x) i

pub none-plus : (a : Counted) → plus no_targets a ≡ a
none-plus a = λ i n k x. zero-left (a n k x) i

pub plus-assoc : (a b c : Counted) → plus (plus a b) c ≡ plus a (plus b c)
plus-assoc a b c = λ i n k x. three (a n k x) (b n k x) (c n k x) i

pub plus-turn : (a b c : Counted) → plus a (plus b c) ≡ plus (plus a c) b
plus-turn a b c = λ i n k x. last-first (a n k x) (b n k x) (c n k x) i

abbrev pub counted_found : List ElementTargeting → Counted
counted_found found = counted_in (map targeting_of found)

-- where records were right by some counts, they are right by others
abbrev pub Comes : KeyTree → (Counted → Counted) → (Counted → Counted) → KeyRecords → KeyRecords → Type 0
Comes tree from to old new =
    (t : Links) (c : Counted) → IsLinked t → AreParents t tree.parents.now → AreRecords t tree.references.now (from c) old → AreRecords t tree.references.now (to c) new

module _ (tree : KeyTree) where
  -- more, of which some are left
  pub record HasCome (all left : Counted) (old now : KeyRecords) : Type 0 where
    pub done : Counted
    pub comes : Comes tree (λ c. c) (λ c. plus c done) old now
    pub all_are : plus done left ≡ all

  pub come-none : (all : Counted) (r : KeyRecords) → HasCome all all r r
  come-none all r = record { done = no_targets; comes = λ t c i p are. subst (λ (d : Counted). AreRecords t tree.references.now d r) (sym (plus-none c)) are; all_are = none-plus all }

  pub come-one : (all one left : Counted) (old now new : KeyRecords) → HasCome all (plus one left) old now → Comes tree (λ c. c) (λ c. plus c one) now new → HasCome all left old new
  come-one all one left old now new so step = record {
    done = plus so.done one;
    comes = λ t c i p are. subst (λ (d : Counted). AreRecords t tree.references.now d new) (plus-assoc c so.done one) (step t (plus c so.done) i p (so.comes t c i p are));
    all_are = plus-assoc so.done one left ∙ so.all_are;
  }

  pub come-all : (all : Counted) (old now : KeyRecords) → HasCome all no_targets old now → Comes tree (λ c. c) (λ c. plus c all) old now
  come-all all old now so = λ t c i p are. subst (λ (d : Counted). AreRecords t tree.references.now (plus c d) now) (sym (plus-none so.done) ∙ so.all_are) (so.comes t c i p are)

  pub can-come : (all left : Counted) (old now : KeyRecords) → HasCome all left old now → ((t : Links) × (c : Counted) × IsLinked t × AreParents t tree.parents.now × AreRecords t tree.references.now c old)
      → (t : Links) × (c : Counted) × IsLinked t × AreParents t tree.parents.now × AreRecords t tree.references.now c now
  can-come all left old now so can = (can.0, plus can.1 so.done, can.2, can.3, so.comes can.0 can.1 can.2 can.3 can.4)

  -- no more, of which some are left
  abbrev pub HasGone : Counted → Counted → KeyRecords → KeyRecords → Type 0
  HasGone all left old now = Comes tree (λ c. plus c all) (λ c. plus c left) old now

  pub gone-one : (all one left : Counted) (old now new : KeyRecords) → HasGone all (plus one left) old now → Comes tree (λ c. plus c one) (λ c. c) now new → HasGone all left old new
  gone-one all one left old now new so step = λ t c i p are.
      step t (plus c left) i p (subst (λ (d : Counted). AreRecords t tree.references.now d now) (plus-turn c one left) (so t c i p are))

  pub gone-all : (all : Counted) (old now : KeyRecords) → HasGone all no_targets old now → Comes tree (λ c. plus c all) (λ c. c) old now
  gone-all all old now so = λ t c i p are. subst (λ (d : Counted). AreRecords t tree.references.now d now) (plus-none c) (so t c i p are)

  pub can-go : (all one left : Counted) (old now : KeyRecords) → HasGone all (plus one left) old now → ((t : Links) × (c : Counted) × IsLinked t × AreParents t tree.parents.now × AreRecords t tree.references.now (plus c all) old)
      → (t : Links) × (c : Counted) × IsLinked t × AreParents t tree.parents.now × AreRecords t tree.references.now (plus c one) now
  can-go all one left old now so can = (
    can.0,
    plus can.1 left,
    can.2,
    can.3,
    subst (λ (d : Counted). AreRecords can.0 tree.references.now d now) (plus-turn can.1 one left) (so can.0 can.1 can.2 can.3 can.4),
  )

-- ---- what is kept of one element is another

weigh-is : (n k : ℕ) (x : Feature) (o : Option (Vec ElementTargeting Global)) → weigh (λ v. counted_in (items_of v) n k x) o ≡ counted_in (listed o) n k x
weigh-is n k x None = refl
weigh-is n k x (Some v) = refl

moved : (a b c d : ℕ) → a + b ≡ c + d → d ≡ 0 → c ≡ a + b
moved a b c d e f = omega (arith, e, f)

pub taken-counts : (old new : TargetSlots) (n : ℕ) → Writes old new n None → counted_all old ≡ plus (counted_all new) (counted_in (targets_at old n))
taken-counts old new n writes = λ i m k x.
    (moved (counted_all new m k x) (counted_in (targets_at old n) m k x) (counted_all old m k x) 0
    (ap (λ (w : ℕ). counted_all new m k x + w) (sym (weigh-is m k x (at old n))) ∙ written-sum (λ v. counted_in (items_of v) m k x) n old new None writes) refl) i

put-moved : (a b c d : ℕ) → a + b ≡ c + d → b ≡ 0 → a ≡ c + d
put-moved a b c d e f = omega (arith, e, f)

pub put-counts : (old new : TargetSlots) (n : ℕ) (found : List ElementTargeting) (v : Vec ElementTargeting Global) → targets_at old n ≡ [] → Writes old new n (Some v) → items_of v ≡ map targeting_of found → counted_all new ≡ plus (counted_all old) (counted_found found)
put-counts old new n found v empty writes same = λ i m k x.
    (put-moved (counted_all new m k x) (weigh (λ v. counted_in (items_of v) m k x) (at old n)) (counted_all old m k x) (counted_in (map targeting_of found) m k x)
    (written-sum (λ v. counted_in (items_of v) m k x) n old new (Some v) writes ∙ ap (λ (found : List Targeting). counted_all old m k x + counted_in found m k x) same)
    (weigh-is m k x (at old n) ∙ ap (λ (found : List Targeting). counted_in found m k x) empty)) i
