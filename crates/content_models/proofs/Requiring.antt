-- The members that have to come, as bits, and whether they have names.
use Rattle.std.proofs.Common.{◌≡◌, ℕ, ◌+◌, ◌^◌, ◌<◌, ◌&&◌, ◌↔◌, ◌⊎◌, Bool, true, false, IsTrue, List, get_or, refl, sym, ap, subst, ◌∙◌, inl, inr, arith}
use Rattle.std.specs.Prelude.{bit_or, max}
use Rattle.std.specs.Int.{bit_at}
use Rattle.std.proofs.lemmas.Bool.{cases_eq, false≢true}
use Rattle.std.proofs.lemmas.Nat.Bits.{bit_at_or, bit_at-zero, bit_at-lt, bit_at-pow_same, bit_at-pow_other}
use Rattle.content_models.specs.Shape.{no_member}
use Rattle.content_models.specs.declared.member.AllMember.{AllMember}

-- the bits of the first members that have to come
pub record IsRequired (members : List AllMember) (count required : ℕ) : Type 0 where
  pub bits : (j : ℕ) → (bit_at required j ≡ 1) ↔ ((j < count) × (0 < (get_or members j no_member).least))

pub required_none : (members : List AllMember) → IsRequired members 0 0
required_none members = record { bits = λ j. ((λ e. let z = bit_at-zero j in absurd (omega arith)), (λ h. let l = h.0 in absurd (omega arith))) }

pub required_set : (members : List AllMember) (i old new : ℕ) → IsRequired members i old → 0 < (get_or members i no_member).least → new ≡ bit_or old (2 ^ i) → IsRequired members (i + 1) new
required_set members i old new is l e = record { bits = λ j. by j (cases_eq j i) }
  where
    bit_is : (j : ℕ) → bit_at new j ≡ max (bit_at old j) (bit_at (2 ^ i) j)
    bit_is j = ap (λ n. bit_at n j) e ∙ bit_at_or old (2 ^ i) j

    by : (j : ℕ) → (j ≡ i) ⊎ (j ≡ i → ⊥) → (bit_at new j ≡ 1) ↔ ((j < i + 1) × (0 < (get_or members j no_member).least))
    by j (inl s) = (
      (λ h. (omega arith, subst (λ (k : ℕ). 0 < (get_or members k no_member).least) (sym s) l)),
      (λ h. let b = bit_is j in let p : bit_at (2 ^ i) j ≡ 1 = ap (bit_at (2 ^ i)) s ∙ bit_at-pow_same i in let n = bit_at-lt old j in omega arith),
    )
    by j (inr d) =
        let p : bit_at (2 ^ i) j ≡ 0 = bit_at-pow_other i j d in let b = bit_is j in (
          (λ h. let r = (is.bits j).0 (let n = bit_at-lt old j in omega arith) in let k = r.0 in (omega arith, r.1)),
          (λ h. let k = h.0 in let r = (is.bits j).1 (lower j d h.0, h.1) in omega arith),
        )
      where
        lower : (j : ℕ) → (j ≡ i → ⊥) → j < i + 1 → j < i
        lower j d l = elim (cases_eq j i) [ inl s ↦ absurd (d s) | inr n ↦ omega arith ]

pub required_skip : (members : List AllMember) (i old : ℕ) → IsRequired members i old → (get_or members i no_member).least ≡ 0 → IsRequired members (i + 1) old
required_skip members i old is z = record { bits = λ j. ((λ h. let r = (is.bits j).0 h in let k = r.0 in (omega arith, r.1)), (λ h. (is.bits j).1 (lower j h.0 h.1, h.1))) }
  where
    lower : (j : ℕ) → j < i + 1 → 0 < (get_or members j no_member).least → j < i
    lower j l p = elim (cases_eq j i) [
      | inl s ↦ (let q : (get_or members j no_member).least ≡ 0 = ap (λ k. (get_or members k no_member).least) s ∙ z in absurd (omega arith))
      | inr n ↦ omega arith
    ]

-- whether the first members that have to come have names
pub record AreHad (inhabited : List Bool) (members : List AllMember) (count : ℕ) (b : Bool) : Type 0 where
  pub told : IsTrue b ↔ ((j : ℕ) → j < count → 0 < (get_or members j no_member).least → IsTrue (get_or inhabited j false))

pub had_none : (inhabited : List Bool) (members : List AllMember) → AreHad inhabited members 0 true
had_none inhabited members = record { told = ((λ t j l p. absurd (omega arith)), (λ h. refl)) }

both_true : (a b : Bool) → IsTrue a → IsTrue b → IsTrue (a && b)
both_true true true s t = refl
both_true true false s t = absurd (false≢true t)
both_true false b s t = absurd (false≢true s)

left_true : (a b : Bool) → IsTrue (a && b) → IsTrue a
left_true true b t = refl
left_true false b t = t

right_true : (a b : Bool) → IsTrue (a && b) → IsTrue b
right_true true b t = t
right_true false b t = absurd (false≢true t)

pub had_set : (inhabited : List Bool) (members : List AllMember) (i : ℕ) (b new : Bool) → AreHad inhabited members i b → 0 < (get_or members i no_member).least →
    new ≡ (b && get_or inhabited i false) → AreHad inhabited members (i + 1) new
had_set inhabited members i b new is l e = record {
  told = (
    (λ t j k p. elim (cases_eq j i) [
      | inl s ↦ subst (λ (n : ℕ). IsTrue (get_or inhabited n false)) (sym s) (right_true b (get_or inhabited i false) (subst IsTrue e t))
      | inr n ↦ is.told.0 (left_true b (get_or inhabited i false) (subst IsTrue e t)) j (omega arith) p
    ]),
    (λ h. subst IsTrue (sym e) (both_true b (get_or inhabited i false) (is.told.1 (λ j k p. h j (omega arith) p)) (h i (omega arith) l))),
  );
}

pub had_skip : (inhabited : List Bool) (members : List AllMember) (i : ℕ) (b : Bool) → AreHad inhabited members i b → (get_or members i no_member).least ≡ 0 → AreHad inhabited members (i + 1) b
had_skip inhabited members i b is z = record {
  told = (
    (λ t j k p. elim (cases_eq j i) [
      | inl s ↦ (let q : (get_or members j no_member).least ≡ 0 = ap (λ n. (get_or members n no_member).least) s ∙ z in absurd (omega arith))
      | inr n ↦ is.told.0 t j (omega arith) p
    ]),
    (λ h. is.told.1 (λ j k p. h j (omega arith) p)),
  );
}
