-- Targets put in one after another.
use Rattle.std.proofs.Common.{◌≡◌, ◌+◌, ℕ, sym, subst, ◌∙◌, arith}
use Rattle.key_records.specs.Counted.{Counted, no_targets, plus}
use Rattle.key_records.specs.Records.{AreRecords}
use Rattle.key_records.specs.declared.records.KeyRecords.{KeyRecords}
use Rattle.key_records.specs.declared.records.KeyTree.{KeyTree}
use Rattle.forest_keys.specs.inside.Records.{AreGrown, CanGrow}

three : (a b c : ℕ) → a + b + c ≡ a + (b + c)
three a b c = omega arith

pub plus-assoc : (a b c : Counted) → plus (plus a b) c ≡ plus a (plus b c)
plus-assoc a b c = λ i n k x. three (a n k x) (b n k x) (c n k x) i

right-zero : (a : ℕ) → a + 0 ≡ a
right-zero a = omega arith

left-zero : (a : ℕ) → 0 + a ≡ a
left-zero a = omega arith

pub plus-none : (a : Counted) → plus a no_targets ≡ a
plus-none a = λ i n k x. right-zero (a n k x) i

pub none-plus : (a : Counted) → plus no_targets a ≡ a
none-plus a = λ i n k x. left-zero (a n k x) i

module _ (tree : KeyTree) where
  pub grown-none : (r : KeyRecords) → AreGrown tree no_targets r r
  grown-none r = λ t c i p is. subst (λ (d : Counted). AreRecords t tree.references.now d r) (sym (plus-none c)) is

  pub grown-both : (a b : Counted) (old middle new : KeyRecords) → AreGrown tree a old middle → AreGrown tree b middle new → AreGrown tree (plus a b) old new
  grown-both a b old middle new first second = λ t c i p is.
      subst (λ (d : Counted). AreRecords t tree.references.now d new) (plus-assoc c a b) (second t (plus c a) i p (first t c i p is))

  pub grown-alike : (a b : Counted) (old new : KeyRecords) → a ≡ b → AreGrown tree a old new → AreGrown tree b old new
  grown-alike a b old new e grown = subst (λ (d : Counted). AreGrown tree d old new) e grown

  pub can-still : (a : Counted) (old new : KeyRecords) → AreGrown tree a old new → CanGrow tree old → CanGrow tree new
  can-still a old new grown can = (can.0, plus can.1 a, can.2, can.3, grown can.0 can.1 can.2 can.3 can.4)

  -- so many targets are in, and with the rest they are all
  pub record Reached (all rest : Counted) (old now : KeyRecords) : Type 0 where
    pub done : Counted
    pub grown : AreGrown tree done old now
    pub all_are : plus done rest ≡ all

  pub begun : (all : Counted) (r : KeyRecords) → Reached all all r r
  begun all r = record { done = no_targets; grown = grown-none r; all_are = none-plus all }

  pub one-on : (all first rest : Counted) (old now new : KeyRecords) → Reached all (plus first rest) old now → AreGrown tree first now new → Reached all rest old new
  one-on all first rest old now new so one = record {
    done = plus so.done first;
    grown = grown-both so.done first old now new so.grown one;
    all_are = plus-assoc so.done first rest ∙ so.all_are;
  }

  pub all-in : (all : Counted) (old now : KeyRecords) → Reached all no_targets old now → AreGrown tree all old now
  all-in all old now so = grown-alike so.done all old now (sym (plus-none so.done) ∙ so.all_are) so.grown

  pub reached-alike : (all rest other : Counted) (old now : KeyRecords) → rest ≡ other → Reached all rest old now → Reached all other old now
  reached-alike all rest other old now e so = subst (λ (d : Counted). Reached all d old now) e so

  pub can-reached : (all rest : Counted) (old now : KeyRecords) → Reached all rest old now → CanGrow tree old → CanGrow tree now
  can-reached all rest old now so can = can-still so.done old now so.grown can
