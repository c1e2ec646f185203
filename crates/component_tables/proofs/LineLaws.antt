-- The lines of all types, from those of each kind.
use Rattle.std.proofs.Common.{◌≡◌, ℕ, ◌+◌, ◌<◌, inl, inr, Bool, false, List, [], ◌∷◌, Option, None, Some, length, get_or, slice_get, slice_index, refl, sym, ap, subst, ◌∙◌, arith}
use Rattle.std.specs.Prelude.{IfSome, All, slice_index_or}
use Rattle.std.specs.Option.{option_map}
use Rattle.std.proofs.lemmas.List.Elements.{All-get_or}
use Rattle.std.proofs.lemmas.Option.{slice_get-get_or, slice_get_within, slice_get_cases}
use Rattle.xs_components.specs.Tables.{Tables}
use Rattle.xs_components.specs.declared.common.TypeId.{TypeId}
use Rattle.xs_components.specs.declared.common.TypeId.TheVariants.{AnyType, Builtin, Simple, Complex}
use Rattle.xs_components.specs.declared.complex.ComplexType.{ComplexType}
use Rattle.xs_components.specs.declared.simple.SimpleForm.{SimpleForm}
use Rattle.xs_components.specs.declared.simple.SimpleForm.TheVariants.{Restrict, ListOf, UnionOf}
use Rattle.xs_components.specs.declared.simple.SimpleType.{SimpleType}
use Rattle.component_references.specs.Heights.{first_height, IsType, IsLower}
use Rattle.component_references.specs.Ranked.{named_types, IsRanked}
use Rattle.component_tables.specs.declared.bases.BaseLine.{BaseLine}
use Rattle.component_tables.specs.declared.bases.BaseStep.{BaseStep}
use Rattle.component_tables.specs.Bases.{simple_number, complex_number, restricted_number, simple, complex, BaseTable, alone, line_at, Starts, Follows, GoesOn, IsInRun, IsMarked, AreLinesOf}
use Rattle.component_tables.specs.inside.Runs.{is_union, simple_step, complex_step, simple_at, complex_at, AreSteps, AreLower, AreSome, starting, following, line_of}
use Rattle.component_tables.proofs.RunLaws.{GoesOnFrom, by-base, line-rank, union-own, union-base, line-known}

none-some : {X : Type 0} (x : X) → None ≡ Some x → ⊥
none-some x e = cc

some-same : {X : Type 0} (a b : X) → Some a ≡ Some b → a ≡ b
some-same a b e = cc

-- what a map comes from
mapped : {A : Type 0} {B : Type 0} (f : A → B) (o : Option A) (b : B) → option_map f o ≡ Some b → (a : A) × (o ≡ Some a) × (f a ≡ b)
mapped f None b e = absurd (none-some b e)
mapped f (Some a) b e = (a, refl, some-same (f a) b e)

-- a base is there, and lower
abbrev IsBase : ℕ → List ℕ → ℕ → ℕ → Type 0
IsBase count ranks n b = (b < count) × (slice_index ranks b < slice_index ranks n)

module _ (step : ℕ → Option BaseStep) (count : ℕ) (ranks : List ℕ) (steps : List BaseStep) (are : AreSteps step count steps) (alike : length ranks ≡ count) (bases : (n : ℕ) (s : BaseStep) → step n ≡ Some s → IfSome s.base (IsBase count ranks n)) where
  base-of : (n : ℕ) (s : BaseStep) → slice_get steps n ≡ Some s → IfSome s.base (IsBase count ranks n)
  base-of n s e =
      let inside : n < length steps = slice_get_within steps n s e in
      bases n s (sym (are.are n (let l = are.each in omega arith)) ∙ e)

  there-of : (n : ℕ) (base : Option ℕ) → IfSome base (IsBase count ranks n) → IfSome base (λ b. b < length steps)
  there-of n None is = tt
  there-of n (Some b) is = let l = are.each in let i = is.0 in omega arith

  lower-of : (n : ℕ) (base : Option ℕ) → IfSome base (IsBase count ranks n) → IfSome base (λ b. slice_index ranks b < slice_index ranks n)
  lower-of n None is = tt
  lower-of n (Some b) is = is.1

  are-lower : AreLower steps ranks
  are-lower = record {
    alike = alike ∙ sym are.each;
    there = λ n s e. there-of n s.base (base-of n s e);
    lower = λ n s e. lower-of n s.base (base-of n s e);
  }

module _ (t : Tables) (ranked : IsRanked t) where
  simple-below : (n : ℕ) (base : TypeId) → IsLower t (first_height + slice_index t.simples.ranks n) base → IfSome (simple_number base) (IsBase (length t.simples.parts) t.simples.ranks n)
  simple-below n AnyType low = tt
  simple-below n (Builtin b) low = tt
  simple-below n (Simple id) low = (low.there, let l = low.lower in omega arith)
  simple-below n (Complex id) low = tt

  form-below : (n : ℕ) (form : SimpleForm) → All (IsLower t (first_height + slice_index t.simples.ranks n)) (named_types form) → IfSome (restricted_number form) (IsBase (length t.simples.parts) t.simples.ranks n)
  form-below n (Restrict base step) low =
      simple-below n base (All-get_or (IsLower t (first_height + slice_index t.simples.ranks n)) (base ∷ []) 0 base (omega arith) low)
  form-below n (ListOf item) low = tt
  form-below n (UnionOf members) low = tt

  simple-bases : (n : ℕ) (s : BaseStep) → simple_at t n ≡ Some s → IfSome s.base (IsBase (length t.simples.parts) t.simples.ranks n)
  simple-bases n s e =
      let f = mapped (λ (part : SimpleType). simple_step n part.form) (slice_get t.simples.parts n) s e in
      subst (λ (s : BaseStep). IfSome s.base (IsBase (length t.simples.parts) t.simples.ranks n)) f.2 (form-below n f.0.form (ranked.simples n f.0 f.1))

  complex-below : (n : ℕ) (base : TypeId) → IsLower t (first_height + slice_index t.complexes.ranks n) base → IfSome (complex_number base) (IsBase (length t.complexes.parts) t.complexes.ranks n)
  complex-below n AnyType low = tt
  complex-below n (Builtin b) low = tt
  complex-below n (Simple id) low = tt
  complex-below n (Complex id) low = (low.there, let l = low.lower in omega arith)

  complex-bases : (n : ℕ) (s : BaseStep) → complex_at t n ≡ Some s → IfSome s.base (IsBase (length t.complexes.parts) t.complexes.ranks n)
  complex-bases n s e =
      let f = mapped (complex_step n) (slice_get t.complexes.parts n) s e in
      subst (λ (s : BaseStep). IfSome s.base (IsBase (length t.complexes.parts) t.complexes.ranks n)) f.2 (complex-below n f.0.base (ranked.complexes n f.0 f.1))

  pub simples-lower : (steps : List BaseStep) → AreSteps (simple_at t) (length t.simples.parts) steps → length t.simples.ranks ≡ length t.simples.parts → AreLower steps t.simples.ranks
  simples-lower steps are alike = are-lower (simple_at t) (length t.simples.parts) t.simples.ranks steps are alike simple-bases

  pub complexes-lower : (steps : List BaseStep) → AreSteps (complex_at t) (length t.complexes.parts) steps → length t.complexes.ranks ≡ length t.complexes.parts → AreLower steps t.complexes.ranks
  complexes-lower steps are alike = are-lower (complex_at t) (length t.complexes.parts) t.complexes.ranks steps are alike complex-bases

-- the rank of a base is lower, by the lines of both
below : (steps : List BaseStep) (nexts : List (Option ℕ)) (ranks : List ℕ) (low : AreLower steps ranks) (n b : ℕ) (s : BaseStep) → slice_get steps n ≡ Some s → s.base ≡ Some b →
    (b < length steps) × ((line_of steps nexts ranks b).rank < slice_index ranks n)
below steps nexts ranks low n b s e is =
    let inside : b < length steps = rw is at (low.there n s e) in
    let less : slice_index ranks b < slice_index ranks n = rw is at (low.lower n s e) in
    let rank = line-rank steps nexts ranks low b (get_or steps b s) (slice_get-get_or steps b s inside) in
    (inside, omega (arith, rank, less))

module _ (t : Tables) (ss cs : List BaseStep) (sl cl : List BaseLine) where
  module _ (simples : AreSteps (simple_at t) (length t.simples.parts) ss) (complexes : AreSteps (complex_at t) (length t.complexes.parts) cs) (slow : AreLower ss t.simples.ranks) (clow : AreLower cs t.complexes.ranks) (slines : AreSome ss t.simples.ranks sl) (clines : AreSome cs t.complexes.ranks cl) where
    abbrev table : BaseTable
    table = record { simples = sl; complexes = cl }

    abbrev next : TypeId → Option TypeId
    next AnyType = None
    next (Builtin b) = None
    next (Simple id) = option_map (λ n. Simple n) (slice_index_or slines.nexts id None)
    next (Complex id) = option_map (λ n. Complex n) (slice_index_or clines.nexts id None)

    abbrev simple-line : ℕ → BaseLine
    simple-line n = line_of ss slines.nexts t.simples.ranks n

    abbrev complex-line : ℕ → BaseLine
    complex-line n = line_of cs clines.nexts t.complexes.ranks n

    simple-known : (id : ℕ) → id < length ss → line_at table (Simple id) ≡ simple-line id
    simple-known id l = line-known ss slines.nexts t.simples.ranks sl slines.are id (alone (Simple id)) (let alike = slow.alike in omega (arith, alike, l))

    complex-known : (id : ℕ) → id < length cs → line_at table (Complex id) ≡ complex-line id
    complex-known id l = line-known cs clines.nexts t.complexes.ranks cl clines.are id (alone (Complex id)) (let alike = clow.alike in omega (arith, alike, l))

    starts : (of : TypeId) (line : BaseLine) (s : BaseStep) (rank : ℕ) (above : Bool) → s.own ≡ of → line ≡ starting s rank above → Starts of line
    starts of line s rank above own is = subst (Starts of) (sym is) (record { first = own; extended = refl; restricted = refl })

    module _ (id : ℕ) (part : SimpleType) (is : slice_get t.simples.parts id ≡ Some part) where
      simple-inside : id < length ss
      simple-inside = let l = slice_get_within t.simples.parts id part is in let e = simples.each in omega arith

      simple-there : slice_get ss id ≡ Some (simple_step id part.form)
      simple-there = simples.are id (slice_get_within t.simples.parts id part is) ∙ ap (option_map (λ (part : SimpleType). simple_step id part.form)) is

      simple-goes : GoesOnFrom ss slines.nexts t.simples.ranks slow id (simple_step id part.form) simple-there → GoesOn t table next (Simple id)
      simple-goes g =
          let low = below ss slines.nexts t.simples.ranks slow id g.base (simple_step id part.form) simple-there g.is_base in
          let mine : line_at table (Simple id) ≡ following (simple_step id part.form) (slice_index t.simples.ranks id) (simple-line g.base) = simple-known id simple-inside ∙ g.line in
          let both : Follows t (Simple g.base) (Simple id) (simple-line g.base) (following (simple_step id part.form) (slice_index t.simples.ranks id) (simple-line g.base)) =
          record { by_extension = false; derived = simple id g.base part is g.is_base; first = refl; lower = low.1; extended = refl; restricted = refl } in
          record {
            base = Simple g.base;
            is_next = ap (option_map (λ n. Simple n)) g.is_next;
            follows = subst (λ (l : BaseLine). Follows t (Simple g.base) (Simple id) (line_at table (Simple g.base)) l) (sym mine)
                (subst (λ (l : BaseLine). Follows t (Simple g.base) (Simple id) l (following (simple_step id part.form) (slice_index t.simples.ranks id) (simple-line g.base))) (sym (simple-known g.base low.0)) both);
          }

      simple-in : IsInRun t table next (Simple id)
      simple-in = elim (by-base ss slines.nexts t.simples.ranks slow id (simple_step id part.form) simple-there (restricted_number part.form) refl) [
        | inl s ↦ inl (starts (Simple id) (line_at table (Simple id)) (simple_step id part.form) (slice_index t.simples.ranks id) s.above refl (simple-known id simple-inside ∙ s.line))
        | inr g ↦ inr (simple-goes g)
      ]

      simple-marked : (form : SimpleForm) → part.form ≡ form → IsMarked table form (simple-line id).is_union
      simple-marked (Restrict base step) e = λ b named up.
          let of : restricted_number part.form ≡ Some b = ap restricted_number e ∙ named in
          let low = below ss slines.nexts t.simples.ranks slow id b (simple_step id part.form) simple-there of in
          union-base ss slines.nexts t.simples.ranks slow id (simple_step id part.form) simple-there b of (sym (ap (λ (l : BaseLine). l.is_union) (simple-known b low.0)) ∙ up)
      simple-marked (ListOf item) e = tt
      simple-marked (UnionOf members) e = union-own ss slines.nexts t.simples.ranks slow id (simple_step id part.form) simple-there (ap is_union e)

      simple-union : IsMarked table part.form (line_at table (Simple id)).is_union
      simple-union = subst (λ (l : BaseLine). IsMarked table part.form l.is_union) (sym (simple-known id simple-inside)) (simple-marked part.form refl)

    module _ (id : ℕ) (part : ComplexType) (is : slice_get t.complexes.parts id ≡ Some part) where
      complex-inside : id < length cs
      complex-inside = let l = slice_get_within t.complexes.parts id part is in let e = complexes.each in omega arith

      complex-there : slice_get cs id ≡ Some (complex_step id part)
      complex-there = complexes.are id (slice_get_within t.complexes.parts id part is) ∙ ap (option_map (complex_step id)) is

      complex-goes : GoesOnFrom cs clines.nexts t.complexes.ranks clow id (complex_step id part) complex-there → GoesOn t table next (Complex id)
      complex-goes g =
          let low = below cs clines.nexts t.complexes.ranks clow id g.base (complex_step id part) complex-there g.is_base in
          let mine : line_at table (Complex id) ≡ following (complex_step id part) (slice_index t.complexes.ranks id) (complex-line g.base) = complex-known id complex-inside ∙ g.line in
          let both : Follows t (Complex g.base) (Complex id) (complex-line g.base) (following (complex_step id part) (slice_index t.complexes.ranks id) (complex-line g.base)) =
          record { by_extension = part.by_extension; derived = complex id g.base part is g.is_base; first = refl; lower = low.1; extended = refl; restricted = refl } in
          record {
            base = Complex g.base;
            is_next = ap (option_map (λ n. Complex n)) g.is_next;
            follows = subst (λ (l : BaseLine). Follows t (Complex g.base) (Complex id) (line_at table (Complex g.base)) l) (sym mine)
                (subst (λ (l : BaseLine). Follows t (Complex g.base) (Complex id) l (following (complex_step id part) (slice_index t.complexes.ranks id) (complex-line g.base))) (sym (complex-known g.base low.0)) both);
          }

      complex-in : IsInRun t table next (Complex id)
      complex-in = elim (by-base cs clines.nexts t.complexes.ranks clow id (complex_step id part) complex-there (complex_number part.base) refl) [
        | inl s ↦ inl (starts (Complex id) (line_at table (Complex id)) (complex_step id part) (slice_index t.complexes.ranks id) s.above refl (complex-known id complex-inside ∙ s.line))
        | inr g ↦ inr (complex-goes g)
      ]

    in-run : (of : TypeId) → IsType t of → IsInRun t table next of
    in-run AnyType is = inl (record { first = refl; extended = refl; restricted = refl })
    in-run (Builtin b) is = inl (record { first = refl; extended = refl; restricted = refl })
    in-run (Simple id) is = elim ((slice_get_cases t.simples.parts id).1) [
      | inl p ↦ simple-in id p.0 p.2
      | inr p ↦ (let past = p.0 in absurd (omega (arith, past, is)))
    ]
    in-run (Complex id) is = elim ((slice_get_cases t.complexes.parts id).1) [
      | inl p ↦ complex-in id p.0 p.2
      | inr p ↦ (let past = p.0 in absurd (omega (arith, past, is)))
    ]

    pub are-lines : AreLinesOf t table
    are-lines = record { next = next; runs = in-run; unions = simple-union }

-- of lists that were looked at
module _ (t : Tables) (ranked : IsRanked t) (ss si : List BaseStep) (ss-is : ss ≡ si) (simples : AreSteps (simple_at t) (length t.simples.parts) si)
    (sr : List ℕ) (sr-is : sr ≡ t.simples.ranks) (salike : length t.simples.ranks ≡ length t.simples.parts) where
  ss-steps : AreSteps (simple_at t) (length t.simples.parts) ss
  ss-steps = subst (AreSteps (simple_at t) (length t.simples.parts)) (sym ss-is) simples

  pub simples-below : AreLower ss sr
  simples-below = subst (AreLower ss) (sym sr-is) (simples-lower t ranked ss ss-steps salike)

module _ (t : Tables) (ranked : IsRanked t) (cs ci : List BaseStep) (cs-is : cs ≡ ci) (complexes : AreSteps (complex_at t) (length t.complexes.parts) ci)
    (cr : List ℕ) (cr-is : cr ≡ t.complexes.ranks) (calike : length t.complexes.ranks ≡ length t.complexes.parts) where
  cs-steps : AreSteps (complex_at t) (length t.complexes.parts) cs
  cs-steps = subst (AreSteps (complex_at t) (length t.complexes.parts)) (sym cs-is) complexes

  pub complexes-below : AreLower cs cr
  complexes-below = subst (AreLower cs) (sym cr-is) (complexes-lower t ranked cs cs-steps calike)

  pub all-lines : (ss si : List BaseStep) (ss-is : ss ≡ si) (simples : AreSteps (simple_at t) (length t.simples.parts) si) (sr : List ℕ) (sr-is : sr ≡ t.simples.ranks) →
      length t.simples.ranks ≡ length t.simples.parts → (sl cl : List BaseLine) → AreSome ss sr sl → AreSome cs cr cl → AreLinesOf t (record { simples = sl; complexes = cl })
  all-lines ss si ss-is simples sr sr-is salike sl cl slines clines =
      let steps = ss-steps t ranked ss si ss-is simples sr sr-is salike in
      are-lines t ss cs sl cl steps cs-steps (simples-lower t ranked ss steps salike) (complexes-lower t ranked cs cs-steps calike)
      (subst (λ ranks. AreSome ss ranks sl) sr-is slines) (subst (λ ranks. AreSome cs ranks cl) cr-is clines)
