-- The test of derivation tells the relation.
use Rattle.std.proofs.Common.{◌≡◌, ℕ, zero, suc, ◌<◌, ◌⊎◌, inl, inr, ◌↔◌, Bool, true, false, ◌&&◌, ◌||◌, Option, None, Some, refl, sym, ap, subst, ◌∙◌, arith}
use Rattle.std.specs.Prelude.{IfSome, IfOk, IsTrue, Result, Ok, Err, not}
use Rattle.std.proofs.lemmas.Bool.{true≢false, and_parts, or_left, or_right}
use Rattle.std.proofs.lemmas.List.Elements.{All-contains}
use Rattle.xs_components.specs.Tables.{Tables}
use Rattle.xs_components.specs.declared.common.Methods.{Methods}
use Rattle.xs_components.specs.declared.common.TypeId.{TypeId}
use Rattle.component_references.specs.Descent.{after_turns, AsksLower}
use Rattle.component_references.specs.Heights.{type_height, IsType, IsLower}
use Rattle.component_references.specs.Ranked.{IsRanked}
use Rattle.component_references.proofs.DescentLaws.{along-is}
use Rattle.type_derivation.specs.Derives.{above, members_of, is_simple}
use Rattle.type_derivation.specs.Chains.{Derives, same, by_base, by_member}
use Rattle.type_derivation.proofs.BaseLaws.{above-lower}
use Rattle.type_derivation.proofs.MemberLaws.{members-lower}
use Rattle.elem_governing.specs.Derived.{same_type, base_derives, member_derives, derives_step, pair_height, derives}
use Rattle.elem_governing.proofs.SameLaws.{same-is, same-self, any-passes, passes-any, any-same}

either : (a b : Bool) → (a || b) ≡ true → (a ≡ true) ⊎ (b ≡ true)
either true b e = inl refl
either false b e = inr e

not-true : (b : Bool) → not b ≡ true → b ≡ false
not-true true e = absurd (true≢false (sym e))
not-true false e = refl

module _ (t : Tables) (excluded : Methods) where
  -- what a step tells is so, where what it asks is
  module _ (ask : TypeId × TypeId → Bool) (so : (sub base : TypeId) → ask (sub, base) ≡ true → Derives t excluded sub base) (sub base : TypeId) where
    by-base : (o : Option TypeId) → above t excluded sub ≡ o → base_derives t excluded ask o base ≡ true → Derives t excluded sub base
    by-base None is e = absurd (true≢false (sym e))
    by-base (Some next) is e = by_base sub next base is (so next base e)

    by-members : ((is_simple sub && not excluded.restriction) && member_derives t excluded ask sub base) ≡ true → Derives t excluded sub base
    by-members e =
        let both = and_parts (is_simple sub && not excluded.restriction) (member_derives t excluded ask sub base) e in
        let free = and_parts (is_simple sub) (not excluded.restriction) both.0 in
        let found = any-passes (λ member. ask (sub, member)) (members_of t base) both.1 in
        by_member sub found.one base free.0 (not-true excluded.restriction free.1) found.there (so sub found.one found.passes)

    step-so : derives_step t excluded ask (sub, base) ≡ true → Derives t excluded sub base
    step-so e = elim (either (same_type sub base) _ e) [
      | inl one ↦ subst (Derives t excluded sub) (same-is sub base one) (same sub)
      | inr more ↦ elim (either (base_derives t excluded ask (above t excluded sub) base) _ more) [
        | inl b ↦ by-base (above t excluded sub) refl b
        | inr m ↦ by-members m
      ]
    ]

  turns-so : (n : ℕ) (sub base : TypeId) → after_turns (pair_height t) false (derives_step t excluded) n (sub, base) ≡ true → Derives t excluded sub base
  turns-so zero sub base e = absurd (true≢false (sym e))
  turns-so (suc n) sub base e = step-so (after_turns (pair_height t) false (derives_step t excluded) n) (turns-so n) sub base e

  derives-so : (sub base : TypeId) → derives t excluded sub base ≡ true → Derives t excluded sub base
  unfolding derives
  derives-so sub base e = turns-so (suc (pair_height t (sub, base))) sub base e

  module _ (ranked : IsRanked t) where
    abbrev AreTypes : TypeId × TypeId → Type 0
    AreTypes pair = IsType t pair.0 × IsType t pair.1

    module _ (sub base : TypeId) (s : IsType t sub) (b : IsType t base) (f g : TypeId × TypeId → Bool)
        (alike : (y : TypeId × TypeId) → AreTypes y → pair_height t y < pair_height t (sub, base) → f y ≡ g y) where
      base-alike : (o : Option TypeId) → IfSome o (IsLower t (type_height t sub)) → base_derives t excluded f o base ≡ base_derives t excluded g o base
      base-alike None low = refl
      base-alike (Some next) low = alike (next, base) (low.there, b) (let l = low.lower in omega arith)

      member-alike : member_derives t excluded f sub base ≡ member_derives t excluded g sub base
      member-alike =
          any-same (λ member. f (sub, member)) (λ member. g (sub, member)) (IsLower t (type_height t base))
          (λ x low. alike (sub, x) (s, low.there) (let l = low.lower in omega arith))
          (members_of t base) (members-lower t ranked base)

      step-alike : derives_step t excluded f (sub, base) ≡ derives_step t excluded g (sub, base)
      step-alike =
          ap (λ (x : Bool). same_type sub base || (x || ((is_simple sub && not excluded.restriction) && member_derives t excluded f sub base))) (base-alike (above t excluded sub) (above-lower t ranked excluded sub)) ∙
          ap (λ (y : Bool). same_type sub base || (base_derives t excluded g (above t excluded sub) base || ((is_simple sub && not excluded.restriction) && y))) member-alike

    asks : AsksLower (pair_height t) false (derives_step t excluded) AreTypes
    asks pair f g is alike = step-alike pair.0 pair.1 is.0 is.1 f g alike

    abbrev told : TypeId × TypeId → Bool
    told pair = derives t excluded pair.0 pair.1

    derives-is : (sub base : TypeId) → IsType t sub → IsType t base → derives t excluded sub base ≡ derives_step t excluded told (sub, base)
    unfolding derives
    derives-is sub base s b = along-is (pair_height t) false (derives_step t excluded) AreTypes asks (sub, base) (s, b)

    all-three : (a b c : Bool) → a ≡ true → b ≡ false → c ≡ true → ((a && not b) && c) ≡ true
    all-three a b c p q r = rw (p, q, r) refl

    derives-when : (sub base : TypeId) → IsType t sub → IsType t base → Derives t excluded sub base → derives t excluded sub base ≡ true
    derives-when _ _ s b (same one) = derives-is one one s b ∙ or_left (same_type one one) _ (same-self one)
    derives-when _ _ s b (by_base sub next base is d) =
        let low : IsLower t (type_height t sub) next = rw is at (above-lower t ranked excluded sub) in
        let up : base_derives t excluded told (above t excluded sub) base ≡ true = rw is (derives-when next base low.there b d) in
        derives-is sub base s b ∙
        or_right (same_type sub base) (base_derives t excluded told (above t excluded sub) base || ((is_simple sub && not excluded.restriction) && member_derives t excluded told sub base))
        (or_left (base_derives t excluded told (above t excluded sub) base) ((is_simple sub && not excluded.restriction) && member_derives t excluded told sub base) up)
    derives-when _ _ s b (by_member sub member base simple free c d) =
        let low = All-contains (IsLower t (type_height t base)) (members_of t base) member (members-lower t ranked base) c in
        let some : member_derives t excluded told sub base ≡ true = passes-any (λ m. told (sub, m)) (members_of t base) member c (derives-when sub member s low.there d) in
        derives-is sub base s b ∙
        or_right (same_type sub base) (base_derives t excluded told (above t excluded sub) base || ((is_simple sub && not excluded.restriction) && member_derives t excluded told sub base))
        (or_right (base_derives t excluded told (above t excluded sub) base) ((is_simple sub && not excluded.restriction) && member_derives t excluded told sub base)
        (all-three (is_simple sub) excluded.restriction (member_derives t excluded told sub base) simple free some))

-- the test tells which types derive from which
pub derives-told : (t : Tables) (excluded : Methods) (sub base : TypeId) → IsRanked t → IsType t sub → IsType t base → IsTrue (derives t excluded sub base) ↔ Derives t excluded sub base
derives-told t excluded sub base ranked s b = (derives-so t excluded sub base, derives-when t excluded ranked sub base s b)

-- an answer that tells it is the test's
pub derives-answer : (t : Tables) (excluded : Methods) (sub base : TypeId) → IsRanked t → IsType t sub → IsType t base → (answer : Bool) → IsTrue answer ↔ Derives t excluded sub base → answer ≡ derives t excluded sub base
derives-answer t excluded sub base ranked s b answer tells = of answer (derives t excluded sub base) tells (derives-told t excluded sub base ranked s b)
  where
    of : (x y : Bool) → IsTrue x ↔ Derives t excluded sub base → IsTrue y ↔ Derives t excluded sub base → x ≡ y
    of true true p q = refl
    of true false p q = sym (q.1 (p.0 refl))
    of false true p q = p.1 (q.0 refl)
    of false false p q = refl

pub answer-tested : {E : Type 0} (t : Tables) (excluded : Methods) (sub base : TypeId) → IsRanked t → IsType t sub → IsType t base → (result : Result Bool E) →
    IfOk result (λ answer. IsTrue answer ↔ Derives t excluded sub base) → IfOk result (λ answer. answer ≡ derives t excluded sub base)
answer-tested t excluded sub base ranked s b (Ok answer) tells = derives-answer t excluded sub base ranked s b answer tells
answer-tested t excluded sub base ranked s b (Err e) tells = tt
