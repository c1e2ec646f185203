-- The first code of an element, and the first fault of all.
use Rattle.std.proofs.Common.{◌≡◌, ℕ, ◌+◌, ◌<◌, ◌≤◌, ◌⊎◌, inl, inr, ◌==◌, Bool, true, false, if◌then◌else◌, List, [], ◌∷◌, Option, None, Some, length, slice_get, refl, sym, ap, ◌∙◌, subst, arith}
use Rattle.std.specs.Prelude.{All, Contains, nat_lt}
use Rattle.std.specs.Option.{option_map}
use Rattle.std.proofs.lemmas.Bool.{cases_eq}
use Rattle.std.proofs.lemmas.Bool.Decides.{nat_tests}
use Rattle.std.proofs.lemmas.Option.{slice_get_within}
use Rattle.std.proofs.lemmas.List.Elements.{All-nil, All-cons, All-weaker, All-contains}
use Rattle.xs_codes.specs.declared.code.Code.{Code}
use Rattle.xs_codes.specs.declared.code.Code.TheVariants.{SchPropsCorrect2, XLimitComponents, NoXmlns, NoXsi, SrcResolve, SrcResolve4}
use Rattle.xs_codes.specs.declared.fault.Fault.{Fault}
use Rattle.xs_codes.specs.Codes.{order_of}
use Rattle.xs_components.specs.declared.common.Place.{Place}
use Rattle.xs_codes.specs.Least.{is_before, sooner, IsLeast}
use Rattle.xs_codes.proofs.LeastLaws.{fault_not_itself, least-sum, least-same}
use Rattle.xs_names.specs.Names.{NameTable}
use Rattle.representations.specs.declared.parts.Represented.{Represented}
use Rattle.representations.specs.declared.parts.Representation.{Representation}
use Rattle.representations.specs.declared.source.SymbolSpaces.{SymbolSpaces}
use Rattle.representations.specs.Names.{spaces_of}
use Rattle.representations.specs.declared.origins.Origin.{Origin}
use Rattle.reference_faults.specs.declared.lookup.Kinds.{Kinds}
use Rattle.reference_faults.specs.Attributes.{attribute_name, is_xmlns, is_xsi}
use Rattle.reference_faults.specs.Doubles.{is_double}
use Rattle.reference_faults.specs.Faults.{name_fault, code_if, is_lost, is_foreign, reference_codes, codes_of, IsElementFault, IsLimitFault, IsBroken}
use Rattle.reference_faults.specs.Imports.{origin_at}
use Rattle.reference_faults.specs.Limit.{component_places}
use Rattle.reference_faults.specs.Resolution.{kinds_of}
use Rattle.reference_faults.specs.inside.Limits.{IsLimit}

-- codes from this place on in the list of all
abbrev From : ℕ → List Code → Type 0
From k codes = All (λ code. k ≤ order_of code) codes

-- the first of the codes is the least
abbrev IsFirstLeast : List Code → Type 0
IsFirstLeast [] = Unit {0}
IsFirstLeast (code ∷ codes) = From (order_of code) codes

from-more : (k m : ℕ) → k ≤ m → (codes : List Code) → From m codes → From k codes
from-more k m le codes all = All-weaker (λ code. m ≤ order_of code) (λ code. k ≤ order_of code) (λ code h. omega (arith, le, h)) codes all

from-if : (broken : Bool) (code : Code) (codes : List Code) (k : ℕ) → k ≤ order_of code → From (order_of code) codes → From k (code_if broken code codes)
from-if true code codes k le all = All-cons (λ code. k ≤ order_of code) code codes le (from-more k (order_of code) le codes all)
from-if false code codes k le all = from-more k (order_of code) le codes all

least-if : (broken : Bool) (code : Code) (codes : List Code) → From (order_of code) codes → IsFirstLeast codes → IsFirstLeast (code_if broken code codes)
least-if true code codes all least = all
least-if false code codes all least = least

module _ (t : NameTable) (spaces : SymbolSpaces) (kinds : Kinds) (origin : Option Origin) (place : ℕ) (form : Represented) where
  abbrev last : List Code
  last = code_if (is_foreign t spaces kinds origin form) SrcResolve4 []

  abbrev second : List Code
  second = code_if (is_xsi t (attribute_name form)) NoXsi (reference_codes t spaces kinds origin form)

  abbrev third : List Code
  third = code_if (is_xmlns t (attribute_name form)) NoXmlns second

  last-from : From 45 last
  last-from = from-if (is_foreign t spaces kinds origin form) SrcResolve4 [] 45 (omega arith) (All-nil (λ code. 45 ≤ order_of code))

  references-from : From 44 (reference_codes t spaces kinds origin form)
  references-from = from-if (is_lost t spaces kinds form) SrcResolve last 44 (omega arith) (from-more 44 45 (omega arith) last last-from)

  second-from : From 43 second
  second-from = from-if (is_xsi t (attribute_name form)) NoXsi (reference_codes t spaces kinds origin form) 43 (omega arith)
      (from-more 43 44 (omega arith) (reference_codes t spaces kinds origin form) references-from)

  third-from : From 42 third
  third-from = from-if (is_xmlns t (attribute_name form)) NoXmlns second 42 (omega arith) (from-more 42 43 (omega arith) second second-from)

  pub first-least : IsFirstLeast (codes_of t spaces kinds origin place form)
  first-least =
      least-if (is_double spaces place) SchPropsCorrect2 third (from-more 40 42 (omega arith) third third-from)
      (least-if (is_xmlns t (attribute_name form)) NoXmlns second (from-more 42 43 (omega arith) second second-from)
      (least-if (is_xsi t (attribute_name form)) NoXsi (reference_codes t spaces kinds origin form) (from-more 43 44 (omega arith) (reference_codes t spaces kinds origin form) references-from)
      (least-if (is_lost t spaces kinds form) SrcResolve last (from-more 44 45 (omega arith) last last-from)
      (least-if (is_foreign t spaces kinds origin form) SrcResolve4 [] (All-nil (λ code. 45 ≤ order_of code)) tt))))

before-same : (a b x y : ℕ) → y ≤ x → (if a == a then (if b == b then nat_lt x y else nat_lt b b) else nat_lt a a) ≡ false
before-same a b x y h = grind (arith, nat_tests)

-- a fault of one of these codes at a place
abbrev pub IsFaultOf : Place → List Code → Fault → Type 0
IsFaultOf at codes fault = (code : Code) × Contains codes code × (fault ≡ name_fault at code)

-- the fault of the first code, if there is one
abbrev pub fault_of : Place → List Code → Option Fault
fault_of at codes = option_map (name_fault at) (slice_get codes 0)

pub least-of : (at : Place) (codes : List Code) → IsFirstLeast codes → IsLeast (IsFaultOf at codes) (fault_of at codes)
least-of at [] first = λ fault is. absurd (omega (arith, is.1.1))
least-of at (code ∷ codes) first = ((code, (0, omega arith, refl), refl), behind)
  where
    all : All (λ other. order_of code ≤ order_of other) (code ∷ codes)
    all = All-cons (λ other. order_of code ≤ order_of other) code codes (omega arith) first

    behind : (fault : Fault) → IsFaultOf at (code ∷ codes) fault → is_before fault (name_fault at code) ≡ false
    behind fault is =
        rw is.2 (before-same at.document at.item (order_of is.0) (order_of code) (All-contains (λ other. order_of code ≤ order_of other) (code ∷ codes) is.0 all is.1))

module _ (t : NameTable) (origins : List Origin) (reps : List Representation) where
  abbrev codes_at : ℕ → Representation → List Code
  codes_at place rep = codes_of t (spaces_of reps) (kinds_of reps) (origin_at origins place) place rep.form

  -- a fault of one of the first elements
  abbrev pub FaultBelow : ℕ → Fault → Type 0
  FaultBelow i fault =
      (place : ℕ) × (place < i) × (rep : Representation) × (code : Code) × (slice_get reps place ≡ Some rep) × Contains (codes_at place rep) code
      × (fault ≡ name_fault rep.at code)

  pub none-below : IsLeast (FaultBelow 0) None
  none-below = λ fault is. absurd (omega (arith, is.1))

  rep-same : (a b : Representation) (o : Option Representation) → o ≡ Some a → o ≡ Some b → a ≡ b
  rep-same a b o e f = let g : Some a ≡ Some b = sym e ∙ f in cc

  pub one-more : (i : ℕ) (rep : Representation) (best : Option Fault) → slice_get reps i ≡ Some rep → IsLeast (FaultBelow i) best →
      IsLeast (FaultBelow (i + 1)) (sooner best (fault_of rep.at (codes_at i rep)))
  one-more i rep best is least =
      least-same (λ f. FaultBelow i f ⊎ IsFaultOf rep.at (codes_at i rep) f) (FaultBelow (i + 1)) to from (sooner best (fault_of rep.at (codes_at i rep)))
      (least-sum (FaultBelow i) (IsFaultOf rep.at (codes_at i rep)) best (fault_of rep.at (codes_at i rep)) least
      (least-of rep.at (codes_at i rep) (first-least t (spaces_of reps) (kinds_of reps) (origin_at origins i) i rep.form)))
    where
      to : (f : Fault) → FaultBelow i f ⊎ IsFaultOf rep.at (codes_at i rep) f → FaultBelow (i + 1) f
      to f (inl c) = (c.0, omega (arith, c.1), c.2, c.3, c.4, c.5, c.6)
      to f (inr e) = (i, omega arith, rep, e.0, is, e.1, e.2)

      here : (place : ℕ) (other : Representation) (code : Code) (f : Fault) → place ≡ i → other ≡ rep → Contains (codes_at place other) code → f ≡ name_fault other.at code → IsFaultOf rep.at (codes_at i rep) f
      here place other code f p r there e = (
        code,
        subst (λ k. Contains (codes_at k rep) code) p (subst (λ (x : Representation). Contains (codes_at place x) code) r there),
        e ∙ ap (λ (x : Representation). name_fault x.at code) r,
      )

      from : (f : Fault) → FaultBelow (i + 1) f → FaultBelow i f ⊎ IsFaultOf rep.at (codes_at i rep) f
      from f c = elim (cases_eq c.0 i) [
        | inl same ↦ inr (here c.0 c.2 c.3 f same (rep-same c.2 rep (slice_get reps i) (ap (slice_get reps) (sym same) ∙ c.4) is) c.5 c.6)
        | inr other ↦ inl (c.0, omega (arith, c.1), c.2, c.3, c.4, c.5, c.6)
      ]

  -- the same, where what the code has is known by equations
  pub one-more-by : (i : ℕ) (rep : Representation) (best : Option Fault) (spaces : SymbolSpaces) (kinds : Kinds) (origin : Option Origin) (code : Option Code) (found next : Option Fault) →
      spaces ≡ spaces_of reps → kinds ≡ kinds_of reps → origin ≡ origin_at origins i → code ≡ slice_get (codes_of t spaces kinds origin i rep.form) 0 → found ≡ option_map (name_fault rep.at) code →
      next ≡ sooner best found → slice_get reps i ≡ Some rep → IsLeast (FaultBelow i) best → IsLeast (FaultBelow (i + 1)) next
  one-more-by i rep best spaces kinds origin code found next s k o c f n is least =
      let by_spaces : codes_of t spaces kinds origin i rep.form ≡ codes_of t (spaces_of reps) kinds origin i rep.form = ap (λ (x : SymbolSpaces). codes_of t x kinds origin i rep.form) s in
      let by_kinds : codes_of t (spaces_of reps) kinds origin i rep.form ≡ codes_of t (spaces_of reps) (kinds_of reps) origin i rep.form = ap (λ (x : Kinds). codes_of t (spaces_of reps) x origin i rep.form) k in
      let by_origin : codes_of t (spaces_of reps) (kinds_of reps) origin i rep.form ≡ codes_at i rep = ap (λ (x : Option Origin). codes_of t (spaces_of reps) (kinds_of reps) x i rep.form) o in
      let codes : codes_of t spaces kinds origin i rep.form ≡ codes_at i rep = by_spaces ∙ by_kinds ∙ by_origin in
      let fault : found ≡ fault_of rep.at (codes_at i rep) = f ∙ ap (option_map (name_fault rep.at)) (c ∙ ap (λ (x : List Code). slice_get x 0) codes) in
      subst (IsLeast (FaultBelow (i + 1))) (sym (n ∙ ap (sooner best) fault)) (one-more i rep best is least)

  pub all-faults : (i : ℕ) → i ≡ length reps → (best : Option Fault) → IsLeast (FaultBelow i) best → IsLeast (IsElementFault t origins reps) best
  all-faults i e best least =
      least-same (FaultBelow i) (IsElementFault t origins reps) (λ f c. (c.0, c.2, c.3, c.4, c.5, c.6))
      (λ f c. (c.0, omega (arith, e, slice_get_within reps c.0 c.1 c.3), c.1, c.2, c.3, c.4, c.5)) best least

-- the fault of the component past the limit is the only one
pub limit-least : (reps : List Representation) (at : Option Place) → IsLimit (component_places reps) at →
    IsLeast (IsLimitFault reps) (option_map (λ place. name_fault place XLimitComponents) at)
limit-least reps None is = λ fault l. is l.0 l.1
limit-least reps (Some at) is = ((at, is.0, refl), behind)
  where
    behind : (fault : Fault) → IsLimitFault reps fault → is_before fault (name_fault at XLimitComponents) ≡ false
    behind fault l = rw (l.2 ∙ ap (λ (p : Place). name_fault p XLimitComponents) (is.1 l.0 l.1)) (fault_not_itself (name_fault at XLimitComponents))

pub all-least : (t : NameTable) (origins : List Origin) (reps : List Representation) (element : Option Fault) (at : Option Place) → IsLeast (IsElementFault t origins reps) element →
    IsLimit (component_places reps) at → IsLeast (IsBroken t origins reps) (sooner element (option_map (λ place. name_fault place XLimitComponents) at))
all-least t origins reps element at least limit =
    least-sum (IsElementFault t origins reps) (IsLimitFault reps) element (option_map (λ place. name_fault place XLimitComponents) at) least (limit-least reps at limit)
