-- The first fault of a particle, and of several.
use Rattle.std.proofs.Common.{◌≡◌, ◌⊎◌, inl, inr, ℕ, ◌+◌, ◌<◌, ◌≤◌, Bool, true, false, true≢false, List, [], ◌∷◌, ◌++◌, Option, None, Some, length, take, get_or, slice_get, refl, sym, ◌∙◌, subst, ap, arith}
use Rattle.std.specs.Prelude.{Contains, option_and_then}
use Rattle.std.proofs.lemmas.Bool.{cases_eq}
use Rattle.std.proofs.lemmas.List.{take_more, take_all}
use Rattle.std.proofs.lemmas.List.Elements.{Contains-append_left, Contains-push, Contains-push_cases}
use Rattle.std.proofs.lemmas.Option.{none-some, same_Some}
use Rattle.xs_codes.specs.declared.code.Code.TheVariants.{XLimitAll, CosAllLimited1, CosAllLimited2}
use Rattle.xs_codes.specs.declared.fault.Fault.{Fault}
use Rattle.xs_codes.specs.Least.{IsLeast, is_before, sooner}
use Rattle.xs_codes.proofs.LeastLaws.{fault_not_itself, least-sum, least-same}
use Rattle.xs_components.specs.Tables.{Tables}
use Rattle.xs_components.specs.declared.particle.Particle.{Particle as Part}
use Rattle.component_references.specs.Ranked.{held_particles}
use Rattle.schema_models.specs.AllLimits.{all_in, all_at, members_at, members_in, comes_once, is_single, particle_fault, IsAllAt, itself, IsCrowded, IsRepeated, IsEmptyRepeated, IsNested, IsMisfit, IsMemberMisfit, IsUnlimitedAt, IsUnlimited}
use Rattle.schema_models.specs.inside.Marks.{marked, Among, AreStanding, IsUnlimitedIn, IsUnlimitedBelow}
use Rattle.schema_models.proofs.FindLaws.{all-same}

-- the only one
only-one : (P : Fault → Type 0) (f : Fault) → P f → ((g : Fault) → P g → g ≡ f) → IsLeast P (Some f)
only-one P f p same = (p, λ g q. subst (λ (x : Fault). is_before x f ≡ false) (sym (same g q)) (fault_not_itself f))

-- ---- lists
module _ (P : ℕ → Fault → Type 0) (ids : List ℕ) where
  pub among-none : IsLeast (Among P (take 0 ids)) None
  among-none f x = absurd (omega (arith, x.1.1))

  pub among-more : (i k : ℕ) (best found new : Option Fault) → i < length ids → k ≡ get_or ids i k → new ≡ sooner best found → IsLeast (Among P (take i ids)) best → IsLeast (P k) found → IsLeast (Among P (take (i + 1) ids)) new
  among-more i k best found new l is e before own =
      subst (IsLeast (Among P (take (i + 1) ids))) (sym e)
      (least-same (λ f. Among P (take i ids) f ⊎ P k f) (Among P (take (i + 1) ids)) to from (sooner best found) (least-sum (Among P (take i ids)) (P k) best found before own))
    where
      longer : take (i + 1) ids ≡ take i ids ++ k ∷ []
      longer = take_more ids i k l ∙ ap (λ y. take i ids ++ y ∷ []) (sym is)

      to : (f : Fault) → Among P (take i ids) f ⊎ P k f → Among P (take (i + 1) ids) f
      to f (inl (q, c, p)) = (q, subst (λ xs. Contains xs q) (sym longer) (Contains-append_left (take i ids) (k ∷ []) q c), p)
      to f (inr p) = (k, subst (λ xs. Contains xs k) (sym longer) (Contains-push (take i ids) k), p)

      from : (f : Fault) → Among P (take (i + 1) ids) f → Among P (take i ids) f ⊎ P k f
      from f (q, c, p) = elim (Contains-push_cases (take i ids) k q (subst (λ xs. Contains xs q) longer c)) [ inl o ↦ inl (q, o, p) | inr same ↦ inr (subst (λ x. P x f) (sym same) p) ]

  pub among-all : (i : ℕ) (best : Option Fault) → length ids ≤ i → IsLeast (Among P (take i ids)) best → IsLeast (Among P ids) best
  among-all i best l least = subst (λ xs. IsLeast (Among P xs) best) (take_all i ids l) least

module _ (t : Tables) where
  -- ---- one particle
  module _ (p : ℕ) (part : Part) (is : slice_get t.particles.parts p ≡ Some part) where
    all-is : all_at t p ≡ all_in part.term
    all-is = ap (option_and_then (λ (q : Part). all_in q.term)) is

    pub members-are : members_at t p ≡ held_particles part.term
    members-are = ap members_in is

    pub not-crowded : all_in part.term ≡ None → IsLeast (IsCrowded t p) None
    not-crowded none f (members, e, many, same) = none-some members (sym none ∙ (sym all-is ∙ e))

    pub few : (members : List ℕ) → all_in part.term ≡ Some members → length members ≤ 64 → IsLeast (IsCrowded t p) None
    few members e l f (others, e', many, same) =
        let z : length members ≡ length others = ap length (same_Some members others (sym e ∙ (sym all-is ∙ e'))) in omega (arith, z, l, many)

    pub crowd : (members : List ℕ) (fault : Fault) → all_in part.term ≡ Some members → 64 < length members → fault ≡ particle_fault t p XLimitAll → IsLeast (IsCrowded t p) (Some fault)
    crowd members fault e l is-fault =
        only-one (IsCrowded t p) fault (members, all-is ∙ e, l, is-fault) (λ g b. same g b)
      where
        same : (g : Fault) → IsCrowded t p g → g ≡ fault
        same g (others, e', many, h) = h ∙ sym is-fault

    pub no-members : all_in part.term ≡ None → IsLeast (IsMemberMisfit t p) None
    no-members none f (members, e, q, c, m) = none-some members (sym none ∙ (sym all-is ∙ e))

    pub with-members : (members : List ℕ) (found : Option Fault) → all_in part.term ≡ Some members → IsLeast (Among (IsMisfit t) members) found → IsLeast (IsMemberMisfit t p) found
    with-members members found e least =
        least-same (Among (IsMisfit t) members) (IsMemberMisfit t p) (λ f x. to f x) from found least
      where
        to : (f : Fault) → Among (IsMisfit t) members f → IsMemberMisfit t p f
        to f (q, c, m) = (members, all-is ∙ e, q, c, m)

        from : (f : Fault) → IsMemberMisfit t p f → Among (IsMisfit t) members f
        from f (others, e', q, c, m) = (q, subst (λ xs. Contains xs q) (same_Some others members (sym e' ∙ (all-is ∙ e))) c, m)

    -- an all without members
    pub not-empty : all_in part.term ≡ None → IsLeast (IsEmptyRepeated t p) None
    not-empty none f h = none-some [] (sym none ∙ (sym all-is ∙ h.0))

    pub has-members : (members : List ℕ) → all_in part.term ≡ Some members → (0 < length members) → IsLeast (IsEmptyRepeated t p) None
    has-members members e some f h = let z : length members ≡ 0 = ap length (same_Some members [] (sym e ∙ (sym all-is ∙ h.0))) in omega (arith, z, some)

    pub empty-once : comes_once t p ≡ true → IsLeast (IsEmptyRepeated t p) None
    empty-once once f h = true≢false (sym once ∙ h.1)

    pub empty-repeats : (members : List ℕ) (fault : Fault) → all_in part.term ≡ Some members → length members ≡ 0 → comes_once t p ≡ false → fault ≡ particle_fault t p CosAllLimited1 → IsLeast (IsEmptyRepeated t p) (Some fault)
    empty-repeats members fault e none not is = only-one (IsEmptyRepeated t p) fault (all-is ∙ (e ∙ ap (λ xs. Some xs) (nil members none)), not, is) (λ g h. h.2 ∙ sym is)
      where
        nil : (xs : List ℕ) → length xs ≡ 0 → xs ≡ []
        nil [] z = refl
        nil (x ∷ xs) z = absurd (omega (arith, z))

  pub not-repeated : (p : ℕ) → comes_once t p ≡ true → IsLeast (IsRepeated t p) None
  not-repeated p once f (all, h, not, e) = true≢false (sym once ∙ not)

  pub repeats : (p : ℕ) (found : Option Fault) → comes_once t p ≡ false → IsLeast (IsNested t p) found → IsLeast (IsRepeated t p) found
  repeats p found not least = least-same (IsNested t p) (IsRepeated t p) to from found least
    where
      to : (f : Fault) → IsNested t p f → IsRepeated t p f
      to f (all, h, e) = (all, h, not, e)

      from : (f : Fault) → IsRepeated t p f → IsNested t p f
      from f (all, h, n, e) = (all, h, e)

  pub not-nested : (q : ℕ) → ((all : ℕ) → IsAllAt t q all → ⊥) → IsLeast (IsNested t q) None
  not-nested q none f (all, h, e) = none all h

  pub nest : (q all : ℕ) (fault : Fault) → IsAllAt t q all → fault ≡ particle_fault t all CosAllLimited1 → IsLeast (IsNested t q) (Some fault)
  nest q all fault h is = only-one (IsNested t q) fault (all, h, is) same
    where
      same : (g : Fault) → IsNested t q g → g ≡ fault
      same g (other, i, e) = e ∙ (ap (λ a. particle_fault t a CosAllLimited1) (all-same t q other all i h) ∙ sym is)

  pub not-misfit : (q : ℕ) → is_single t q ≡ true → IsLeast (IsMisfit t q) None
  not-misfit q single f (not, e) = true≢false (sym single ∙ not)

  pub misfits : (q : ℕ) (fault : Fault) → is_single t q ≡ false → fault ≡ particle_fault t q CosAllLimited2 → IsLeast (IsMisfit t q) (Some fault)
  misfits q fault not is = only-one (IsMisfit t q) fault (not, is) same
    where
      same : (g : Fault) → IsMisfit t q g → g ≡ fault
      same g (n, e) = e ∙ sym is

  pub whole-at : (p : ℕ) (members : List ℕ) (a b c d ab cd whole : Option Fault) → members ≡ members_at t p → ab ≡ sooner a b → cd ≡ sooner c d → whole ≡ sooner ab cd →
      IsLeast (IsCrowded t p) a → IsLeast (IsRepeated t p) b → IsLeast (Among (IsNested t) members) c → IsLeast (IsMemberMisfit t p) d → IsLeast (IsUnlimitedAt t p) whole
  whole-at p members a b c d ab cd whole are e f g la lb lc ld =
      subst (IsLeast (IsUnlimitedAt t p)) (sym g)
      (least-sum (λ h. IsCrowded t p h ⊎ IsRepeated t p h) (λ h. Among (IsNested t) (members_at t p) h ⊎ IsMemberMisfit t p h) ab cd
      (subst (IsLeast (λ h. IsCrowded t p h ⊎ IsRepeated t p h)) (sym e) (least-sum (IsCrowded t p) (IsRepeated t p) a b la lb))
      (subst (IsLeast (λ h. Among (IsNested t) (members_at t p) h ⊎ IsMemberMisfit t p h)) (sym f)
      (least-sum (Among (IsNested t) (members_at t p)) (IsMemberMisfit t p) c d (subst (λ xs. IsLeast (Among (IsNested t) xs) c) are lc) ld)))

  -- ---- all particles
  module _ (marks : List Bool) (s : AreStanding t marks) where
    pub not-standing : (p : ℕ) (found : Option Fault) → marked marks p ≡ false → IsLeast (IsEmptyRepeated t p) found → IsLeast (IsUnlimitedIn t p) found
    not-standing p found not least = least-same (IsEmptyRepeated t p) (IsUnlimitedIn t p) (λ f h. inr h) from found least
      where
        from : (f : Fault) → IsUnlimitedIn t p f → IsEmptyRepeated t p f
        from f (inl (h, u)) = absurd (true≢false (sym ((s.stand p).1 h) ∙ not))
        from f (inr h) = h

    pub stands : (p : ℕ) (found : Option Fault) → marked marks p ≡ true → IsLeast (IsUnlimitedAt t p) found → IsLeast (IsUnlimitedIn t p) found
    stands p found m least = least-same (IsUnlimitedAt t p) (IsUnlimitedIn t p) (λ f u. inl ((s.stand p).0 m, u)) from found least
      where
        from : (f : Fault) → IsUnlimitedIn t p f → IsUnlimitedAt t p f
        from f (inl (h, u)) = u
        from f (inr (e, not, is)) = inl (inr (p, itself p [] e, not, is))

  pub none-below : IsLeast (IsUnlimitedBelow t 0) None
  none-below f x = absurd (omega (arith, x.1))

  -- with the next particle
  pub one-more : (n : ℕ) (best found new : Option Fault) → new ≡ sooner best found → IsLeast (IsUnlimitedBelow t n) best → IsLeast (IsUnlimitedIn t n) found → IsLeast (IsUnlimitedBelow t (n + 1)) new
  one-more n best found new is before own =
      subst (IsLeast (IsUnlimitedBelow t (n + 1))) (sym is)
      (least-same (λ f. IsUnlimitedBelow t n f ⊎ IsUnlimitedIn t n f) (IsUnlimitedBelow t (n + 1)) to from (sooner best found) (least-sum (IsUnlimitedBelow t n) (IsUnlimitedIn t n) best found before own))
    where
      to : (f : Fault) → IsUnlimitedBelow t n f ⊎ IsUnlimitedIn t n f → IsUnlimitedBelow t (n + 1) f
      to f (inl (p, l, u)) = (p, omega (arith, l), u)
      to f (inr u) = (n, omega arith, u)

      from : (f : Fault) → IsUnlimitedBelow t (n + 1) f → IsUnlimitedBelow t n f ⊎ IsUnlimitedIn t n f
      from f (p, l, u) = elim (cases_eq p n) [ inl same ↦ inr (subst (λ e. IsUnlimitedIn t e f) same u) | inr differ ↦ inl (p, omega (arith, l, differ), u) ]

  -- all particles
  pub all-below : (n : ℕ) (best : Option Fault) → length t.particles.parts ≤ n → n ≤ length t.particles.parts → IsLeast (IsUnlimitedBelow t n) best → IsLeast (IsUnlimited t) best
  all-below n best l m least = least-same (IsUnlimitedBelow t n) (IsUnlimited t) to from best least
    where
      to : (f : Fault) → IsUnlimitedBelow t n f → IsUnlimited t f
      to f (p, below, u) = (p, omega (arith, m, below), u)

      from : (f : Fault) → IsUnlimited t f → IsUnlimitedBelow t n f
      from f (p, there, u) = (p, omega (arith, l, there), u)
