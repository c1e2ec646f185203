-- Namespace constraints as sets, on plain tests.
use Rattle.std.proofs.Common.{◌≡◌, ◌≢◌, ℕ, ◌+◌, ◌<◌, Bool, true, false, ◌&&◌, ◌||◌, not, nat_eq, List, [], ◌∷◌, sum, refl, sym, ap, ◌∙◌, subst, inl, inr, ◌++◌, filter, None, Some, Option, IfNone, arith}
use Rattle.std.proofs.lemmas.Bool.Decides.{nat_tests}
use Rattle.std.specs.List.{list_all}
use Rattle.std.proofs.lemmas.Bool.{eqb-true, ne_eqb, eq-eqb, or_from, or_left, or_right, or_cases, and_from, and_parts, true≢false, cases_eq}
use Rattle.std.proofs.lemmas.List.Sums.{sum_by-cons}
use Rattle.std.proofs.lemmas.List.Folds.{list_any-append}
use Rattle.std.proofs.lemmas.Map.Views.{any-filter_same}
use Rattle.std.proofs.Math.Bool.{and_comm, or_comm}
use Rattle.xs_components.specs.Sets.{has, admits, IsIntersection, IsUnion}
use Rattle.xs_components.specs.declared.namespace_constraint.NsConstraint.{NsConstraint}
use Rattle.xs_components.specs.declared.namespace_constraint.NsConstraint.TheVariants.{Any, Not, In}

-- a number past the sum of a list is not in it
pub has-past : (listed : List ℕ) (ns : ℕ) → sum listed < ns → has listed ns ≡ false
has-past [] ns h = refl
has-past (x ∷ xs) ns h =
    let parts : sum (x ∷ xs) ≡ x + sum xs = sum_by-cons (λ k. k) x xs in
    or_from (nat_eq x ns) (has xs ns) (ne_eqb x ns (λ e. omega arith)) (has-past xs ns (omega arith))

-- what a negation admits
pub admits-other : (x ns : ℕ) → ns ≢ 0 → ns ≢ x → admits (Not x) ns ≡ true
admits-other x ns a b = grind (arith, nat_tests)

pub admits-itself : (x : ℕ) → admits (Not x) x ≡ false
admits-itself x = grind (arith, nat_tests)

pub not-admitted : (x ns : ℕ) → admits (Not x) ns ≡ false → ns ≢ 0 → ns ≡ x
not-admitted x ns e h = grind (arith, nat_tests)

-- two negations of different namespaces, neither of them absent, have no intersection
pub no-intersection : (x y : ℕ) (c : NsConstraint) → x ≢ y → x ≢ 0 → y ≢ 0 → IsIntersection (Not x) (Not y) c → ⊥
no-intersection x y Any differ a b is = true≢false (is 0)
no-intersection x y (Not z) differ a b is =
    let at_x : admits (Not z) x ≡ false = is x ∙ ap (λ t. t && admits (Not y) x) (admits-itself x) in
    let at_y : admits (Not z) y ≡ false = is y ∙ grind (arith, nat_tests) in
    differ (not-admitted z x at_x a ∙ sym (not-admitted z y at_y b))
no-intersection x y (In listed) differ a b is =
    let n = sum listed + x + y + 1 in
    let here : has listed n ≡ false = has-past listed n (omega arith) in
    let there : (admits (Not x) n && admits (Not y) n) ≡ true =
    ap (λ t. t && admits (Not y) n) (admits-other x n (omega arith) (omega arith)) ∙ admits-other y n (omega arith) (omega arith) in
    true≢false (sym there ∙ sym (is n) ∙ here)

-- a negation and a set that has the absent namespace and not the negated one have no union
pub no-union : (x : ℕ) (p : ℕ → Bool) (c : NsConstraint) → p 0 ≡ true → p x ≡ false → ((ns : ℕ) → admits c ns ≡ (admits (Not x) ns || p ns)) → ⊥
no-union x p Any absent lacks is = true≢false (is x ∙ or_from (admits (Not x) x) (p x) (admits-itself x) lacks)
no-union x p (Not z) absent lacks is = true≢false (sym absent ∙ sym (is 0))
no-union x p (In more) absent lacks is =
    let n = sum more + x + 1 in
    let here : has more n ≡ false = has-past more n (omega arith) in
    let there : (admits (Not x) n || p n) ≡ true = ap (λ t. t || p n) (admits-other x n (omega arith) (omega arith)) in
    true≢false (sym there ∙ sym (is n) ∙ here)

-- the same, the sides exchanged
pub none-exchanged : (o : Option NsConstraint) (a b : NsConstraint) → IfNone o ((c : NsConstraint) → IsUnion a b c → ⊥) → IfNone o ((c : NsConstraint) → IsUnion b a c → ⊥)
none-exchanged None a b h = λ c u. h c (λ ns. u ns ∙ or_comm (admits b ns) (admits a ns))
none-exchanged (Some x) a b h = h

-- a set, and all but one namespace and the absent one
module _ (p : ℕ → Bool) (x : ℕ) where
  pub all-united : p x ≡ true → p 0 ≡ true → (ns : ℕ) → true ≡ (admits (Not x) ns || p ns)
  all-united one absent ns =
      elim (cases_eq ns 0) [ inl e ↦ grind (arith, nat_tests) | inr e ↦ elim (cases_eq ns x) [ inl f ↦ grind (arith, nat_tests) | inr f ↦ grind (arith, nat_tests) ] ]

  pub but-absent-united : p x ≡ true → p 0 ≡ false → (ns : ℕ) → admits (Not 0) ns ≡ (admits (Not x) ns || p ns)
  but-absent-united one absent ns =
      elim (cases_eq ns 0) [ inl e ↦ grind (arith, nat_tests) | inr e ↦ elim (cases_eq ns x) [ inl f ↦ grind (arith, nat_tests) | inr f ↦ grind (arith, nat_tests) ] ]

  pub but-one-united : p x ≡ false → p 0 ≡ false → (ns : ℕ) → admits (Not x) ns ≡ (admits (Not x) ns || p ns)
  but-one-united one absent ns =
      elim (cases_eq ns 0) [ inl e ↦ grind (arith, nat_tests) | inr e ↦ elim (cases_eq ns x) [ inl f ↦ grind (arith, nat_tests) | inr f ↦ grind (arith, nat_tests) ] ]

-- no list has all but one namespace and the absent one, nor all
pub not-in-list : (x : ℕ) (listed : List ℕ) → ((ns : ℕ) → admits (Not x) ns ≡ true → has listed ns ≡ true) → ⊥
not-in-list x listed h =
    let n = sum listed + x + 1 in
    let there : has listed n ≡ true = h n (admits-other x n (omega arith) (omega arith)) in
    true≢false (sym there ∙ has-past listed n (omega arith))

-- what admits every namespace is without a bound
pub all-is-any : (c : NsConstraint) → ((ns : ℕ) → true ≡ true → admits c ns ≡ true) → c ≡ Any
all-is-any Any h = refl
all-is-any (Not x) h = absurd (true≢false (sym (h 0 refl)))
all-is-any (In listed) h = absurd (true≢false (sym (h (sum listed + 1) refl) ∙ has-past listed (sum listed + 1) (omega arith)))

-- a test of each item of a list is one of each namespace that it has
pub all-has : (p : ℕ → Bool) (xs : List ℕ) → list_all p xs ≡ true → (ns : ℕ) → has xs ns ≡ true → p ns ≡ true
all-has p [] e ns h = absurd (true≢false (sym h))
all-has p (x ∷ xs) e ns h =
    let both = and_parts (p x) (list_all p xs) e in
    elim (or_cases (nat_eq x ns) (has xs ns) h) [
      | inl here ↦ subst (λ k. p k ≡ true) (eqb-true x ns here) both.0
      | inr later ↦ all-has p xs both.1 ns later
    ]

pub has-all : (p : ℕ → Bool) (xs : List ℕ) → ((ns : ℕ) → has xs ns ≡ true → p ns ≡ true) → list_all p xs ≡ true
has-all p [] h = refl
has-all p (x ∷ xs) h =
    and_from (p x) (list_all p xs) (h x (or_left (nat_eq x x) (has xs x) (eq-eqb x x refl)))
    (has-all p xs (λ ns e. h ns (or_right (nat_eq x ns) (has xs ns) e)))

-- the namespaces of a list that pass a test
pub has-filter : (p : ℕ → Bool) (xs : List ℕ) (ns : ℕ) → has (filter p xs) ns ≡ (p ns && has xs ns)
has-filter p xs ns = any-filter_same (λ x. nat_eq x ns) p (p ns) (λ k e. ap p (eqb-true k ns e)) xs

pub has-kept : (p : ℕ → Bool) (xs : List ℕ) (ns : ℕ) → has (filter p xs) ns ≡ (has xs ns && p ns)
has-kept p xs ns = has-filter p xs ns ∙ and_comm (p ns) (has xs ns)

or-once : (a b : Bool) → (a || (not a && b)) ≡ (a || b)
or-once true b = refl
or-once false b = refl

-- a list and what another has beyond it
pub has-merged : (xs ys : List ℕ) (ns : ℕ) → has (xs ++ filter (λ y. not (has xs y)) ys) ns ≡ (has xs ns || has ys ns)
has-merged xs ys ns =
    list_any-append (λ x. nat_eq x ns) xs (filter (λ y. not (has xs y)) ys)
    ∙ ap (λ t. has xs ns || t) (has-filter (λ y. not (has xs y)) ys ns)
    ∙ or-once (has xs ns) (has ys ns)
