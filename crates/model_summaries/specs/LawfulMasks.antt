-- Children act one after the other as they do joined.
use Rattle.std.proofs.Common.{◌≡◌, ℕ, ◌==◌, min, max, not, ◌||◌, Bool, true, false, refl, sym, ap, ◌∙◌, arith, eqb-true, eq-eqb}
use Rattle.std.specs.Prelude.{bit_and, bit_or}
use Rattle.std.specs.Int.{bit_at}
use Rattle.std.proofs.lemmas.Bool.{both_ways}
use Rattle.std.proofs.lemmas.Nat.Bits.{bit_at_and, bit_at_or, bit_at-zero, same_from_bits}
use Rattle.content_models.specs.declared.state.AllState.{AllState}
use Rattle.child_trees.specs.Laws.{SummaryLaws}
use Rattle.model_summaries.specs.declared.map.AllMap.{AllMap}
use Rattle.model_summaries.specs.Masks.{meets, no_children, joined, acts}

pub or_assoc : (a b c : ℕ) → bit_or (bit_or a b) c ≡ bit_or a (bit_or b c)
or_assoc a b c = same_from_bits (bit_or (bit_or a b) c) (bit_or a (bit_or b c)) (λ i.
    let p = bit_at_or (bit_or a b) c i in let q = bit_at_or a b i in let r = bit_at_or a (bit_or b c) i in let s = bit_at_or b c i in omega arith)

-- no bit in common with two numbers at once
apart_to : (a b c : ℕ) → bit_and (bit_or a b) c ≡ 0 → (bit_and a c ≡ 0) × (bit_and b c ≡ 0)
apart_to a b c e =
    let z : (i : ℕ) → max (min (bit_at a i) (bit_at c i)) (min (bit_at b i) (bit_at c i)) ≡ 0 = λ i.
    (let p = bit_at_and (bit_or a b) c i in let q = bit_at_or a b i in let r : bit_at (bit_and (bit_or a b) c) i ≡ bit_at 0 i = ap (λ k. bit_at k i) e in let s = bit_at-zero i in omega arith) in (
      same_from_bits (bit_and a c) 0 (λ i. let p = bit_at_and a c i in let s = bit_at-zero i in let t = z i in omega arith),
      same_from_bits (bit_and b c) 0 (λ i. let p = bit_at_and b c i in let s = bit_at-zero i in let t = z i in omega arith),
    )

apart_from : (a b c : ℕ) → bit_and a c ≡ 0 → bit_and b c ≡ 0 → bit_and (bit_or a b) c ≡ 0
apart_from a b c e f = same_from_bits (bit_and (bit_or a b) c) 0 (λ i.
    let p = bit_at_and (bit_or a b) c i in let q = bit_at_or a b i in let r = bit_at_and a c i in let s = bit_at_and b c i in let z = bit_at-zero i in
    let x : bit_at (bit_and a c) i ≡ bit_at 0 i = ap (λ k. bit_at k i) e in let y : bit_at (bit_and b c) i ≡ bit_at 0 i = ap (λ k. bit_at k i) f in omega arith)

tests : (x y z : ℕ) → (x ≡ 0 → (y ≡ 0) × (z ≡ 0)) → (y ≡ 0 → z ≡ 0 → x ≡ 0) → not (x == 0) ≡ (not (y == 0) || not (z == 0))
tests x y z f g = by_tests (x == 0) (y == 0) (z == 0) refl refl refl
  where
    by_tests : (a b c : Bool) → (x == 0) ≡ a → (y == 0) ≡ b → (z == 0) ≡ c → not a ≡ (not b || not c)
    by_tests true true true p q r = refl
    by_tests true false c p q r = absurd (both_ways (y == 0) q (eq-eqb y 0 (f (eqb-true x 0 p)).0))
    by_tests true true false p q r = absurd (both_ways (z == 0) r (eq-eqb z 0 (f (eqb-true x 0 p)).1))
    by_tests false true true p q r = absurd (both_ways (x == 0) p (eq-eqb x 0 (g (eqb-true y 0 q) (eqb-true z 0 r))))
    by_tests false false c p q r = refl
    by_tests false true false p q r = refl

meets_left : (a b c : ℕ) → meets (bit_or a b) c ≡ (meets a c || meets b c)
meets_left a b c = tests (bit_and (bit_or a b) c) (bit_and a c) (bit_and b c) (apart_to a b c) (apart_from a b c)

and_comm : (a b : ℕ) → bit_and a b ≡ bit_and b a
and_comm a b = same_from_bits (bit_and a b) (bit_and b a) (λ i. let p = bit_at_and a b i in let q = bit_at_and b a i in omega arith)

meets_right : (a b c : ℕ) → meets a (bit_or b c) ≡ (meets a b || meets a c)
meets_right a b c =
    let f : (x y : ℕ) → meets x y ≡ meets y x = λ x y. ap (λ k. not (k == 0)) (and_comm x y) in
    f a (bit_or b c) ∙ (meets_left b c a ∙ (ap (λ x. x || meets c a) (f b a) ∙ ap (λ x. meets a b || x) (f c a)))

flags : (a b c p q r : Bool) → ((((a || b) || p) || c) || (q || r)) ≡ ((a || ((b || c) || r)) || (p || q))
flags true b c p q r = refl
flags false true c true q r = refl
flags false true c false q r = refl
flags false false true true q r = refl
flags false false true false q r = refl
flags false false false true q r = flags_last q r
  where
    flags_last : (q r : Bool) → true ≡ ((r || true))
    flags_last q true = refl
    flags_last q false = refl
flags false false false false true true = refl
flags false false false false true false = refl
flags false false false false false true = refl
flags false false false false false false = refl

pub joined_assoc : (m n o : AllMap) → joined (joined m n) o ≡ joined m (joined n o)
joined_assoc m n o = λ i. record { adds = or_assoc m.adds n.adds o.adds i; stops = stops_assoc i }
  where
    stops_assoc : (((m.stops || n.stops) || meets m.adds n.adds) || o.stops) || meets (bit_or m.adds n.adds) o.adds ≡ ((m.stops || ((n.stops || o.stops) || meets n.adds o.adds)) || meets m.adds (bit_or n.adds o.adds))
    stops_assoc = rw (meets_left m.adds n.adds o.adds, meets_right m.adds n.adds o.adds) (flags m.stops n.stops o.stops (meets m.adds n.adds) (meets m.adds o.adds) (meets n.adds o.adds))

pub acts_joined : (m n : AllMap) (s : AllState) → acts (joined m n) s ≡ acts n (acts m s)
acts_joined m n s = λ i. record { seen = sym (or_assoc s.seen m.adds n.adds) i; dead = dead_after i }
  where
    dead_after : (s.dead || ((m.stops || n.stops) || meets m.adds n.adds)) || meets s.seen (bit_or m.adds n.adds) ≡ (((s.dead || m.stops) || meets s.seen m.adds) || n.stops) || meets (bit_or s.seen m.adds) n.adds
    dead_after = rw (meets_left s.seen m.adds n.adds, meets_right s.seen m.adds n.adds) (sym (flags s.dead m.stops n.stops (meets s.seen m.adds) (meets s.seen n.adds) (meets m.adds n.adds)))

or_zero : (a : ℕ) → bit_or a 0 ≡ a
or_zero a = same_from_bits (bit_or a 0) a (λ i. let p = bit_at_or a 0 i in let q = bit_at-zero i in omega arith)

and_zero : (a : ℕ) → bit_and a 0 ≡ 0
and_zero a = same_from_bits (bit_and a 0) 0 (λ i. let p = bit_at_and a 0 i in let q = bit_at-zero i in omega arith)

or_false : (a : Bool) → (a || false) ≡ a
or_false true = refl
or_false false = refl

pub acts_unit : (s : AllState) → acts no_children s ≡ s
acts_unit s = λ i. record { seen = or_zero s.seen i; dead = unit_dead i }
  where
    unit_dead : (s.dead || false) || meets s.seen 0 ≡ s.dead
    unit_dead = rw (or_false, and_zero) (or_false s.dead)

pub right_unit : (m : AllMap) → joined m no_children ≡ m
right_unit m = λ i. record { adds = or_zero m.adds i; stops = unit_stops i }
  where
    unit_stops : (m.stops || false) || meets m.adds 0 ≡ m.stops
    unit_stops = rw (or_false, and_zero) (or_false m.stops)

pub left_unit : (m : AllMap) → joined no_children m ≡ m
left_unit m = λ i. record { adds = zero_or i; stops = unit_stops i }
  where
    zero_or : bit_or 0 m.adds ≡ m.adds
    zero_or = same_from_bits (bit_or 0 m.adds) m.adds (λ i. let p = bit_at_or 0 m.adds i in let q = bit_at-zero i in omega arith)

    unit_stops : (false || m.stops) || meets 0 m.adds ≡ m.stops
    unit_stops = or_false m.stops

stays_dead : (m : AllMap) (s : AllState) → s.dead ≡ true → (acts m s).dead ≡ true
stays_dead m s e = ap (λ d. (d || m.stops) || meets s.seen m.adds) e

pub masks_laws : SummaryLaws {Shape = Unit {0}} {Map = AllMap} {State = AllState} (λ _ _. Unit {0}) (λ _ _. Unit {0}) (λ _. no_children) joined acts (λ _ s. s.dead)
masks_laws = record {
  unit_is = λ h. tt;
  join_is = λ h m n _ _. tt;
  acts_is = λ h m s _ _. tt;
  left_unit = λ h m _. left_unit m;
  right_unit = λ h m _. right_unit m;
  assoc = λ h m n o _ _ _. joined_assoc m n o;
  acts_unit = λ h s _. acts_unit s;
  acts_join = λ h m n s _ _ _. acts_joined m n s;
  stays_dead = λ h m s _ _ e. stays_dead m s e;
}
