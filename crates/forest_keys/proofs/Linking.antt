-- Links by a list of the parents of places.
use Rattle.std.proofs.Common.{◌≡◌, ◌≢◌, ◌+◌, ℕ, zero, suc, Bool, true, false, if◌then◌else◌, nat_eq, List, [], ◌∷◌, ◌++◌, length, inl, inr, Option, None, Some, refl, sym, ap, subst, ◌∙◌, arith, true≢false}
use Rattle.std.specs.Prelude.{slice_get}
use Rattle.std.specs.Option.{option_and_then}
use Rattle.std.proofs.lemmas.Bool.{eqb-true, eq-eqb}
use Rattle.identity_constraints.specs.Counting.{Links, Has, Lacks, Distinct, IsLinked}
use Rattle.key_records.specs.Tables.{parent_in}

abbrev joined : Option (Option ℕ) → Option ℕ
joined found = option_and_then (λ (o : Option ℕ). o) found

-- the parent is this one
abbrev pub is_of : ℕ → Option ℕ → Bool
is_of p None = false
is_of p (Some q) = nat_eq q p

abbrev pub with_first : Bool → ℕ → List ℕ → List ℕ
with_first b i cs = if b then i ∷ cs else cs

-- the places that have a parent, from a place on
abbrev pub children_from : ℕ → List (Option ℕ) → ℕ → List ℕ
children_from i [] p = []
children_from i (q ∷ qs) p = with_first (is_of p q) i (children_from (i + 1) qs p)

abbrev pub links_of : List (Option ℕ) → Links
links_of parents = record { parent = parent_in parents; children = children_from 0 parents }

none-some : (p : ℕ) → None ≡ Some p → ⊥
none-some p e = cc

some-is : (a b : ℕ) → Some a ≡ Some b → a ≡ b
some-is a b e = cc

of-is : (p : ℕ) (q : Option ℕ) → is_of p q ≡ true → q ≡ Some p
of-is p None e = absurd (true≢false (sym e))
of-is p (Some q) e = ap (λ (n : ℕ). Some n) (eqb-true q p e)

pub of-itself : (p : ℕ) (q : Option ℕ) → q ≡ Some p → is_of p q ≡ true
of-itself p q e = ap (is_of p) e ∙ eq-eqb p p refl

pub of-off : (p : ℕ) (q : Option ℕ) → (q ≡ Some p → ⊥) → is_of p q ≡ false
of-off p q off = by (is_of p q) refl
  where
    by : (b : Bool) → is_of p q ≡ b → is_of p q ≡ false
    by true e = absurd (off (of-is p q e))
    by false e = e

children-down : (i : ℕ) (qs : List (Option ℕ)) (p c : ℕ) → Has c (children_from i qs p) → (j : ℕ) × (c ≡ i + j) × (joined (slice_get qs j) ≡ Some p)
children-down i [] p c h = absurd h
children-down i (q ∷ qs) p c h = by (children-down (i + 1) qs p c) (is_of p q) refl h
  where
    later : ((j : ℕ) × (c ≡ i + 1 + j) × (joined (slice_get qs j) ≡ Some p)) → (j : ℕ) × (c ≡ i + j) × (joined (slice_get (q ∷ qs) j) ≡ Some p)
    later rest = (suc rest.0, omega (arith, rest.1), rest.2)

    by : (Has c (children_from (i + 1) qs p) → (j : ℕ) × (c ≡ i + 1 + j) × (joined (slice_get qs j) ≡ Some p)) → (b : Bool) → is_of p q ≡ b → Has c (with_first b i (children_from (i + 1) qs p))
        → (j : ℕ) × (c ≡ i + j) × (joined (slice_get (q ∷ qs) j) ≡ Some p)
    by rest true e k = elim k [ inl here ↦ (0, omega (arith, here), of-is p q e) | inr there ↦ later (rest there) ]
    by rest false e k = later (rest k)

children-up : (i : ℕ) (qs : List (Option ℕ)) (p j : ℕ) → joined (slice_get qs j) ≡ Some p → Has (i + j) (children_from i qs p)
children-up i [] p j e = absurd (none-some p e)
children-up i (q ∷ qs) p zero e = subst (λ b. Has (i + 0) (with_first b i (children_from (i + 1) qs p))) (sym (of-itself p q e)) (inl (omega arith))
children-up i (q ∷ qs) p (suc j) e = by (children-up (i + 1) qs p j e) (is_of p q)
  where
    there : Has (i + 1 + j) (children_from (i + 1) qs p) → Has (i + suc j) (children_from (i + 1) qs p)
    there h = let at : i + 1 + j ≡ i + suc j = omega arith in subst (λ n. Has n (children_from (i + 1) qs p)) at h

    by : Has (i + 1 + j) (children_from (i + 1) qs p) → (b : Bool) → Has (i + suc j) (with_first b i (children_from (i + 1) qs p))
    by h true = inr (there h)
    by h false = there h

lacks-all : (x : ℕ) (cs : List ℕ) → ((c : ℕ) → Has c cs → c ≢ x) → Lacks x cs
lacks-all x [] off = tt
lacks-all x (c ∷ cs) off = (off c (inl refl), lacks-all x cs (λ d h. off d (inr h)))

children-apart : (i : ℕ) (qs : List (Option ℕ)) (p : ℕ) → Distinct (children_from i qs p)
children-apart i [] p = tt
children-apart i (q ∷ qs) p = by (children-apart (i + 1) qs p) (is_of p q)
  where
    first : Lacks i (children_from (i + 1) qs p)
    first = lacks-all i (children_from (i + 1) qs p) (λ c h e. let down = children-down (i + 1) qs p c h in let at = down.1 in absurd (omega (arith, at, e)))

    by : Distinct (children_from (i + 1) qs p) → (b : Bool) → Distinct (with_first b i (children_from (i + 1) qs p))
    by rest true = (first, rest)
    by rest false = rest

pub links_linked : (parents : List (Option ℕ)) → IsLinked (links_of parents)
links_linked parents = record {
  down = λ p c h. let found = children-down 0 parents p c h in let at : found.0 ≡ c = omega (arith, found.1) in subst (λ n. joined (slice_get parents n) ≡ Some p) at found.2;
  up = λ p c e. let at : 0 + c ≡ c = omega arith in subst (λ n. Has n (children_from 0 parents p)) at (children-up 0 parents p c e);
  apart = λ p. children-apart 0 parents p;
}

pub children-append : (i : ℕ) (xs ys : List (Option ℕ)) (p : ℕ) → children_from i (xs ++ ys) p ≡ children_from i xs p ++ children_from (i + length xs) ys p
children-append i [] ys p = let at : i ≡ i + 0 = omega arith in ap (λ n. children_from n ys p) at
children-append i (x ∷ xs) ys p =
    let at : i + 1 + length xs ≡ i + length (x ∷ xs) = omega arith in
    ap (with_first (is_of p x) i) (children-append (i + 1) xs ys p ∙ ap (λ n. children_from (i + 1) xs p ++ children_from n ys p) at)
    ∙ by (is_of p x) (children_from (i + 1) xs p) (children_from (i + length (x ∷ xs)) ys p)
  where
    by : (b : Bool) (cs ds : List ℕ) → with_first b i (cs ++ ds) ≡ with_first b i cs ++ ds
    by true cs ds = refl
    by false cs ds = refl
