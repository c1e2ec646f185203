-- What is broken of models that have automata, and all that is broken.
use Rattle.std.proofs.Common.{◌≡◌, ◌⊎◌, inl, inr, ℕ, ◌+◌, ◌<◌, ◌≤◌, Bool, true, false, if◌then◌else◌, List, Option, None, Some, length, refl, sym, ◌∙◌, subst, arith}
use Rattle.std.specs.Prelude.{IfSome, IfOk}
use Rattle.std.specs.declared.result.Result.{Result}
use Rattle.std.specs.declared.result.Result.TheVariants.{Ok, Err}
use Rattle.std.proofs.lemmas.Bool.{cases_eq}
use Rattle.std.proofs.lemmas.Option.{none-some, same_Some}
use Rattle.xs_codes.specs.declared.fault.Fault.{Fault}
use Rattle.xs_codes.specs.Codes.{order_of}
use Rattle.xs_codes.specs.Least.{IsLeast, sooner, is_before}
use Rattle.xs_codes.proofs.LeastLaws.{least-sum, least-same}
use Rattle.xs_names.specs.Names.{NameTable}
use Rattle.xs_components.specs.Tables.{Tables}
use Rattle.content_models.specs.Built.{IsBuilt}
use Rattle.content_models.specs.declared.automaton.ContentAutomaton.{ContentAutomaton}
use Rattle.schema_models.specs.Checks.{IsJudged}
use Rattle.schema_models.specs.declared.fault.ModelFault.{ModelFault}
use Rattle.schema_models.specs.declared.fault.ModelFault.TheVariants.{TooManyPositions, TooManyStates, TableTooLarge, Inconsistent, Ambiguous}
use Rattle.schema_models.specs.SetModels.{content_of, type_fault, code_of, IsBroken, IsBrokenOf, IsModel}
use Rattle.schema_models.specs.inside.Steps.{model_at, IsNotBefore, IsLimit, AreMade, IsOverLimitAt, IsMisjudgedOf, IsMisjudgedAt, IsMisjudgedIn, IsMisjudgedBelow, IsMisjudged, IsFilled, AreModelsIfNone}
use Rattle.schema_models.proofs.PlaceLaws.{not-before-left, not-before-right, some-of, least-of, one-type}

module _ (names : NameTable) (t : Tables) (members : List (List ℕ)) where
  module _ (type p : ℕ) (content : content_of t type ≡ Some p) where
    of-p : (q : ℕ) (kind : ModelFault) → content_of t type ≡ Some q → IsMisjudgedOf names t members q kind → IsMisjudgedOf names t members p kind
    of-p q kind is b = subst (λ x. IsMisjudgedOf names t members x kind) (same_Some q p (sym is ∙ content)) b

    pub judged-none : IsJudged names t members p None → IsLeast (IsMisjudgedAt names t members type) None
    judged-none j f (q, kind, is, b, e) = by kind (of-p q kind is b)
      where
        by : (kind : ModelFault) → IsMisjudgedOf names t members p kind → ⊥
        by TooManyPositions b = b
        by TooManyStates b = b
        by TableTooLarge b = b
        by Inconsistent b = b j.0
        by Ambiguous b = j.1 b

    misjudged : (kind : ModelFault) → IsJudged names t members p (Some kind) → IsMisjudgedOf names t members p kind
    misjudged TooManyPositions j = j
    misjudged TooManyStates j = j
    misjudged TableTooLarge j = j
    misjudged Inconsistent j = j
    misjudged Ambiguous j = j.1

    first-kind : (kind other : ModelFault) → IsJudged names t members p (Some kind) → IsMisjudgedOf names t members p other → order_of (code_of kind) ≤ order_of (code_of other)
    first-kind TooManyPositions other j b = absurd j
    first-kind TooManyStates other j b = absurd j
    first-kind TableTooLarge other j b = absurd j
    first-kind kind TooManyPositions j b = absurd b
    first-kind kind TooManyStates j b = absurd b
    first-kind kind TableTooLarge j b = absurd b
    first-kind Inconsistent Inconsistent j b = omega arith
    first-kind Inconsistent Ambiguous j b = omega arith
    first-kind Ambiguous Inconsistent j b = absurd (b j.0)
    first-kind Ambiguous Ambiguous j b = omega arith

    pub judged-some : (kind : ModelFault) (fault : Fault) → IsJudged names t members p (Some kind) → fault ≡ type_fault t type (code_of kind) → IsLeast (IsMisjudgedAt names t members type) (Some fault)
    judged-some kind fault j is =
        subst (λ f. IsLeast (IsMisjudgedAt names t members type) (Some f)) (sym is) (
          (p, kind, content, misjudged kind j, refl),
          (λ g b. subst (λ (x : Fault). is_before x (type_fault t type (code_of kind)) ≡ false) (sym b.4)
              (one-type t type (code_of b.1) (code_of kind) (first-kind kind b.1 j (of-p b.0 b.1 b.2 b.3)))),
        )

  module _ (models : List (Option ContentAutomaton)) where
    judged-in : (type : ℕ) (f : Fault) → IsMisjudgedIn names t members models type f → IsMisjudgedAt names t members type f
    judged-in type f (a, made, m) = m

    pub with-model : (type : ℕ) (a : ContentAutomaton) (found : Option Fault) → model_at models type ≡ Some a → IsLeast (IsMisjudgedAt names t members type) found → IsLeast (IsMisjudgedIn names t members models type) found
    with-model type a found is least = least-same (IsMisjudgedAt names t members type) (IsMisjudgedIn names t members models type) (λ f m. (a, is, m)) (λ f m. judged-in type f m) found least

    pub told-with : {E : Type 0} (type : ℕ) (a : ContentAutomaton) → model_at models type ≡ Some a → (result : Result (Option Fault) E) → IfOk result (IsLeast (IsMisjudgedAt names t members type)) → IfOk result (IsLeast (IsMisjudgedIn names t members models type))
    told-with type a is (Ok found) least = with-model type a found is least
    told-with type a is (Err e) least = tt

    pub without-model : (type : ℕ) → model_at models type ≡ None → IsLeast (IsMisjudgedIn names t members models type) None
    without-model type is f m = none-some m.0 (sym is ∙ m.1)

    pub without-content : (type : ℕ) → content_of t type ≡ None → IsLeast (IsMisjudgedIn names t members models type) None
    without-content type is f (a, made, (p, kind, content, b, e)) = none-some p (sym is ∙ content)

    pub none-below : IsLeast (IsMisjudgedBelow names t members models 0) None
    none-below f x = absurd (omega (arith, x.1))

    -- with the next type
    pub one-more : (n : ℕ) (best found new : Option Fault) → new ≡ sooner best found → IsLeast (IsMisjudgedBelow names t members models n) best → IsLeast (IsMisjudgedIn names t members models n) found → IsLeast (IsMisjudgedBelow names t members models (n + 1)) new
    one-more n best found new is before own =
        subst (IsLeast (IsMisjudgedBelow names t members models (n + 1))) (sym is)
        (least-same (λ f. IsMisjudgedBelow names t members models n f ⊎ IsMisjudgedIn names t members models n f) (IsMisjudgedBelow names t members models (n + 1))
        (λ f either. elim either [ inl x ↦ (x.0, omega (arith, x.1), x.2) | inr x ↦ (n, omega arith, x) ])
        (λ f x. elim (cases_eq x.0 n) [ inl same ↦ inr (subst (λ e. IsMisjudgedIn names t members models e f) same x.2) | inr differ ↦ inl (x.0, omega (arith, x.1, differ), x.2) ])
        (sooner best found) (least-sum (IsMisjudgedBelow names t members models n) (IsMisjudgedIn names t members models n) best found before own))

    -- all types
    pub all-below : (n : ℕ) (best : Option Fault) → length t.complexes.parts ≤ n → n ≤ length t.complexes.parts → IsLeast (IsMisjudgedBelow names t members models n) best → IsLeast (IsMisjudged names t members models) best
    all-below n best l m least =
        least-same (IsMisjudgedBelow names t members models n) (IsMisjudged names t members models)
        (λ f x. (x.0, omega (arith, m, x.1), x.2)) (λ f x. (x.0, omega (arith, l, x.1), x.2)) best least

  pub built-is : (classes : List ℕ) (models : List (Option ContentAutomaton)) → AreMade names t members classes models → (type p : ℕ) (a : ContentAutomaton) → model_at models type ≡ Some a → content_of t type ≡ Some p → IsBuilt names t members classes p a
  built-is classes models made type p a is e = let m = made type a is in subst (λ q. IsBuilt names t members classes q a) (same_Some m.p p (sym m.content ∙ e)) m.built

  module _ (classes : List ℕ) (models : List (Option ContentAutomaton)) (first best : Option Fault) (filled : IsFilled names t members classes models first) (least : IsLeast (IsMisjudged names t members models) best) where
    -- what is broken is a limit, or was judged
    broken-limit : (type p : ℕ) (kind : ModelFault) → IsBrokenOf names t members classes type p kind → IsLimit kind ⊎ IsMisjudgedOf names t members p kind
    broken-limit type p TooManyPositions b = inl tt
    broken-limit type p TooManyStates b = inl tt
    broken-limit type p TableTooLarge b = inl tt
    broken-limit type p Inconsistent b = inr b
    broken-limit type p Ambiguous b = inr b

    judged-broken : (type p : ℕ) (kind : ModelFault) → IsMisjudgedOf names t members p kind → IsBrokenOf names t members classes type p kind
    judged-broken type p TooManyPositions b = absurd b
    judged-broken type p TooManyStates b = absurd b
    judged-broken type p TableTooLarge b = absurd b
    judged-broken type p Inconsistent b = b
    judged-broken type p Ambiguous b = b

    first-broken : (r : Option Fault) → IfSome r (λ f. (type : ℕ) × (type < length t.complexes.parts) × IsOverLimitAt names t members classes type f) → IfSome r (IsBroken names t members classes)
    first-broken None is = tt
    first-broken (Some f) (type, there, over) = (type, there, (over.0, over.1, over.2, over.3, over.4))

    best-broken : (r : Option Fault) → IsLeast (IsMisjudged names t members models) r → IfSome r (IsBroken names t members classes)
    best-broken None is = tt
    best-broken (Some f) ((type, there, (a, made, m)), on) = (type, there, (m.0, m.1, m.2, judged-broken type m.0 m.1 m.3, m.4))

    not-before-best : (r : Option Fault) → IsLeast (IsMisjudged names t members models) r → (g : Fault) → IsMisjudged names t members models g → IsNotBefore r g
    not-before-best None is g m = is g m
    not-before-best (Some f) is g m = is.1 g m

    none-before : (g : Fault) → IsBroken names t members classes g → IsNotBefore (sooner first best) g
    none-before g (type, there, b) = elim (broken-limit type b.0 b.1 b.3) [
      | inl limit ↦ not-before-left first best g (filled.limits type there g (b.0, b.1, b.2, b.3, b.4, limit))
      | inr judged ↦ by (model_at models type) refl judged
    ]
      where
        by : (m : Option ContentAutomaton) → model_at models type ≡ m → IsMisjudgedOf names t members b.0 b.1 → IsNotBefore (sooner first best) g
        by (Some a) e j = not-before-right first best g (not-before-best best least g (type, there, (a, e, (b.0, b.1, b.2, j, b.4))))
        by None e j = elim (filled.without type there e) [
          | inl none ↦ absurd (none-some b.0 (sym none ∙ b.2))
          | inr w ↦ not-before-left first best g (w.1 g b)
        ]

    pub whole : IsLeast (IsBroken names t members classes) (sooner first best)
    whole = least-of (IsBroken names t members classes) (sooner first best) (some-of (IsBroken names t members classes) first best (first-broken first filled.found) (best-broken best least)) none-before

    model-right : (type : ℕ) → type < length models → first ≡ None → (content : Option ℕ) → content_of t type ≡ content → (m : Option ContentAutomaton) → model_at models type ≡ m → IsModel names t members classes content m
    model-right type l none None e None is = refl
    model-right type l none None e (Some a) is = absurd (let made = filled.made type a is in none-some made.p (sym e ∙ made.content))
    model-right type l none (Some p) e None is = elim (filled.without type (subst (λ n. type < n) filled.each l) is) [
      | inl no-content ↦ absurd (none-some p (sym no-content ∙ e))
      | inr w ↦ absurd (w.0 none)
    ]
    model-right type l none (Some p) e (Some a) is =
        let made = filled.made type a is in (a, refl, subst (λ q. IsBuilt names t members classes q a) (same_Some made.p p (sym made.content ∙ e)) made.built)

    none-both : (a b : Option Fault) → sooner a b ≡ None → a ≡ None
    none-both None b e = refl
    none-both (Some f) None e = absurd (none-some f (sym e))
    none-both (Some f) (Some o) e = absurd (by (is_before o f) e)
      where
        by : (r : Bool) → (if r then Some o else Some f) ≡ None → ⊥
        by true h = none-some o (sym h)
        by false h = none-some f (sym h)

    pub models-right : (r : Option Fault) → sooner first best ≡ r → AreModelsIfNone names t members classes models r
    models-right (Some f) e = tt
    models-right None e = (filled.each, λ type l. model-right type l (none-both first best e) (content_of t type) refl (model_at models type) refl)
