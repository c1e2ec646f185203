-- What governs the elements of a document is there.
use Rattle.std.proofs.Common.{◌≡◌, ◌⊎◌, inl, inr, ℕ, ◌+◌, ◌≤◌, List, Option, None, Some, length, refl, sym, ap, ◌∙◌, subst, arith}
use Rattle.std.specs.Prelude.{slice_get, ◌==◌, if◌then◌else◌}
use Rattle.std.specs.Option.{option_and_then}
use Rattle.std.proofs.lemmas.Bool.{cases_eq, cases_lt}
use Rattle.std.proofs.lemmas.Option.{slice_get_past, slice_get-get_or}
use Rattle.xs_names.specs.Names.{NameTable}
use Rattle.xs_names.specs.Scope.{first_scope}
use Rattle.tree_rows.specs.Forest.{Forest, none, text, element, Document}
use Rattle.tree_rows.specs.Whole.{IsTree, times}
use Rattle.xs_components.specs.declared.common.TypeId.{TypeId}
use Rattle.xs_components.specs.declared.common.TypeId.TheVariants.{AnyType, Builtin, Simple, Complex}
use Rattle.assess_records.specs.Numbered.{Scope, Head, heads, names_of, scope_in}
use Rattle.elem_governing.specs.Governing.{skipped}
use Rattle.elem_governing.specs.declared.pairs.Governing.{Governing}
use Rattle.content_models.specs.declared.automaton.ContentAutomaton.{ContentAutomaton}
use Rattle.assessment.specs.Attribution.{SchemaSet, content_particle, AreTerms}
use Rattle.assessment.specs.Assessment.{first_pair, other_pairs, governed, root_pairs}
use Rattle.assessment.specs.Fitting.{Fits}
use Rattle.assessment.specs.Local.{HasElement}
use Rattle.assessment.proofs.Alike.{element-counts}
use Rattle.compiled_schema.specs.Usable.{set_of, HasModelOver, AreModels, IsUsable}
use Rattle.compiled_schema.specs.declared.compiled.Compiled.{Compiled}
use Rattle.assessment_laws.specs.Governed.{AreGoverned, AreGovernings}
use Rattle.what_is_found.proofs.Terms.{terms-there}

none-some : {X : Type 0} (x : X) → None ≡ Some x → ⊥
none-some x e = cc

-- ---- the automaton of a type

module _ (c : Compiled) (first : NameTable) (models : AreModels c first) where
  fits-by : (n : ℕ) (model : Option ContentAutomaton) → HasModelOver first c n model → Fits (set_of c) (content_particle c.parts (Some (Complex n))) model
  fits-by n None is = subst (λ (p : Option ℕ). Fits (set_of c) p None) (sym is) tt
  fits-by n (Some a) is =
      subst (λ (p : Option ℕ). Fits (set_of c) p (Some a)) (sym is.1) (record {
        old = first;
        grown = models.grown;
        named = models.named;
        built = is.2.built;
        unambiguous = λ x y h. is.2.unambiguous (x, y, h);
      })

  complex-fits : (n : ℕ) (o : Option (Option ContentAutomaton)) → slice_get c.models n ≡ o → (model : Option ContentAutomaton) × Fits (set_of c) (content_particle c.parts (Some (Complex n))) model
  complex-fits n (Some model) e = (model, fits-by n model (models.are n model e))
  complex-fits n None e = elim (cases_lt n (length c.models)) [
    | inl l ↦ let there = slice_get-get_or c.models n None l in absurd (none-some _ (sym e ∙ there))
    | inr past ↦
        let size : length c.parts.contents ≤ n = (let a = models.each in let b = models.contents_each in omega (arith, a, b, past)) in
        let out : content_particle c.parts (Some (Complex n)) ≡ None = ap (option_and_then (λ (content : Option ℕ). content)) (slice_get_past c.parts.contents n size) in
        (None, subst (λ (p : Option ℕ). Fits (set_of c) p None) (sym out) tt)
  ]

  type-fits : (of : Option TypeId) → (model : Option ContentAutomaton) × Fits (set_of c) (content_particle c.parts of) model
  type-fits None = (None, tt)
  type-fits (Some AnyType) = (None, tt)
  type-fits (Some (Builtin kind)) = (None, tt)
  type-fits (Some (Simple n)) = (None, tt)
  type-fits (Some (Complex n)) = complex-fits n (slice_get c.models n) refl

pub usable-terms : (c : Compiled) → IsUsable c → (of : Option TypeId) (children : List ℕ) → (stuck : Option ℕ) × (terms : List (Option ℕ)) × AreTerms (set_of c) (content_particle c.parts of) children stuck terms
usable-terms c usable of children =
    let fits = type-fits c usable.first usable.models_are of in
    terms-there (set_of c) (content_particle c.parts of) fits.0 fits.1 children

-- ---- what governs by numbers

abbrev HaveTerms : SchemaSet → Type 0
HaveTerms s = (of : Option TypeId) (children : List ℕ) → (stuck : Option ℕ) × (terms : List (Option ℕ)) × AreTerms s (content_particle s.parts of) children stuck terms

has-or-not : (n : ℕ) (f : Forest) → HasElement n f ⊎ (HasElement n f → ⊥)
has-or-not n none = inr (λ h. h)
has-or-not n (text number chars next) = has-or-not n next
has-or-not n (element number name bindings attributes children next) = elim (cases_eq number n) [
  | inl same ↦ inl (inl same)
  | inr other ↦ elim (has-or-not n children) [
    | inl below ↦ inl (inr (inl below))
    | inr not_below ↦ elim (has-or-not n next) [
      | inl later ↦ inl (inr (inr later))
      | inr not_later ↦ inr (λ h. elim h [ inl e ↦ other e | inr more ↦ elim more [ inl b ↦ not_below b | inr l ↦ not_later l ] ])
    ]
  ]
]

module _ (s : SchemaSet) where
  governed-alike : (x y : ℕ → Governing) (f : Forest) (scope : Scope) (pairs : List Governing) → ((n : ℕ) → HasElement n f → y n ≡ x n) → AreGoverned s x scope pairs f → AreGoverned s y scope pairs f
  governed-alike x y none scope pairs same h = tt
  governed-alike x y (text number chars next) scope pairs same h = governed-alike x y next scope pairs same h
  governed-alike x y (element number name bindings attributes children next) scope pairs same h = (
    h.0,
    same number (inl refl) ∙ h.1,
    h.2,
    governed-alike x y children (scope_in s.names bindings scope) h.0 (λ n k. same n (inr (inl k))) h.3,
    governed-alike x y next scope (other_pairs pairs) (λ n k. same n (inr (inr k))) h.4,
  )

  -- by the element's own pair, those below it, and those after it
  module _ (number : ℕ) (children : Forest) (own : Governing) (below later : ℕ → Governing) where
    abbrev by-place : (n : ℕ) → (number ≡ n) ⊎ (number ≡ n → ⊥) → HasElement n children ⊎ (HasElement n children → ⊥) → Governing
    by-place n (inl same) o = own
    by-place n (inr other) (inl has) = below n
    by-place n (inr other) (inr lacks) = later n

    abbrev joined : ℕ → Governing
    joined n = by-place n (cases_eq number n) (has-or-not n children)

    joined-own : joined number ≡ own
    joined-own = by (cases_eq number number)
      where
        by : (o : (number ≡ number) ⊎ (number ≡ number → ⊥)) → by-place number o (has-or-not number children) ≡ own
        by (inl same) = refl
        by (inr other) = absurd (other refl)

    joined-below : (n : ℕ) → (number ≡ n → ⊥) → HasElement n children → joined n ≡ below n
    joined-below n other has = by (cases_eq number n) (has-or-not n children)
      where
        by : (o : (number ≡ n) ⊎ (number ≡ n → ⊥)) (h : HasElement n children ⊎ (HasElement n children → ⊥)) → by-place n o h ≡ below n
        by (inl same) h = absurd (other same)
        by (inr never) (inl is) = refl
        by (inr never) (inr lacks) = absurd (lacks has)

    joined-later : (n : ℕ) → (number ≡ n → ⊥) → (HasElement n children → ⊥) → joined n ≡ later n
    joined-later n other lacks = by (cases_eq number n) (has-or-not n children)
      where
        by : (o : (number ≡ n) ⊎ (number ≡ n → ⊥)) (h : HasElement n children ⊎ (HasElement n children → ⊥)) → by-place n o h ≡ later n
        by (inl same) h = absurd (other same)
        by (inr never) (inl is) = absurd (lacks is)
        by (inr never) (inr is) = refl

  abbrev own_times : ℕ → ℕ → ℕ
  own_times number n = if number == n then 1 else 0

  at-itself : (n : ℕ) → own_times n n ≡ 1
  at-itself n = grind arith

  module _ (terms : HaveTerms s) where
    pub governed-there : (f : Forest) → ((n : ℕ) → times n f ≤ 1) → (scope : Scope) (pairs : List Governing) → (governs : ℕ → Governing) × AreGoverned s governs scope pairs f
    governed-there none differ scope pairs = ((λ n. skipped), tt)
    governed-there (text number chars next) differ scope pairs = governed-there next (λ n. let few = differ n in omega (arith, few)) scope pairs
    governed-there (element number name bindings attributes children next) differ scope pairs =
        let g : Governing = first_pair pairs in
        let hs : List Head = heads s.names (scope_in s.names bindings scope) children in
        let found = terms g.of (names_of hs) in
        let inner : List Governing = governed s g found.1 hs in
        let below = governed-there children (λ n. let few = differ n in omega (arith, few)) (scope_in s.names bindings scope) inner in
        let later = governed-there next (λ n. let few = differ n in omega (arith, few)) scope (other_pairs pairs) in
        let all : ℕ → Governing = joined number children g below.0 later.0 in
        let apart : (n : ℕ) → 1 ≤ times n children + times n next → number ≡ n → ⊥ = λ n some e.
        let one : own_times number n ≡ 1 = subst (λ (m : ℕ). own_times number m ≡ 1) e (at-itself number) in let few : own_times number n + (times n children + times n next) ≤ 1 = differ n in omega (arith, one, few, some) in (
          all,
          (
            inner,
            joined-own number children g below.0 later.0,
            record { stuck = found.0; terms = found.1; attributed = found.2; inner_is = refl },
            governed-alike below.0 all children (scope_in s.names bindings scope) inner
                (λ n k. let some = element-counts n children k in joined-below number children g below.0 later.0 n (apart n (omega (arith, some))) k) below.1,
            governed-alike later.0 all next scope (other_pairs pairs)
                (λ n k. let some = element-counts n next k in joined-later number children g below.0 later.0 n (apart n (omega (arith, some)))
                (λ h. let more = element-counts n children h in let few = differ n in omega (arith, some, more, few))) later.1,
          ),
        )

pub usable-governings : (c : Compiled) (d : Document) → IsUsable c → IsTree d → (governs : ℕ → Governing) × AreGovernings (set_of c) governs d.forest
usable-governings c d usable tree =
    governed-there (set_of c) (usable-terms c usable) d.forest tree.differ first_scope (root_pairs (set_of c) (heads c.names first_scope d.forest))
