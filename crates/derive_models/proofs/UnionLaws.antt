-- What is found of the unions that are types of elements.
use Rattle.std.proofs.Common.{◌≡◌, ℕ, ◌+◌, ◌<◌, inl, inr, Bool, true, false, List, Option, None, Some, length, slice_index_or, refl, sym, ap, ◌∙◌, subst, arith}
use Rattle.std.specs.Prelude.{IfSome}
use Rattle.std.proofs.lemmas.Bool.{true≢false, cases_eq, cases_lt}
use Rattle.std.proofs.lemmas.List.{get_or-set_same, get_or-set_other, length-set, get_or_past}
use Rattle.xs_components.specs.Tables.{Tables}
use Rattle.xs_components.specs.declared.common.TypeId.{TypeId}
use Rattle.xs_components.specs.declared.common.TypeId.TheVariants.{AnyType, Builtin, Simple, Complex}
use Rattle.component_references.specs.Heights.{IsType}
use Rattle.component_tables.specs.Types.{type_of}
use Rattle.type_derivation.specs.Within.{AreWithin, Marks, simples_with}
use Rattle.derive_models.specs.Derivation.{AreUnions, IsFound}
use Rattle.derive_models.specs.inside.Asked.{AreAsked, AreLooked, marks_of}

none-some : {X : Type 0} (x : X) → None ≡ Some x → ⊥
none-some x e = cc

-- what is marked has a place
marked-within : (asked : List Bool) (id : ℕ) → slice_index_or asked id false ≡ true → id < length asked
marked-within asked id e = elim (cases_lt id (length asked)) [ inl low ↦ low | inr past ↦ absurd (true≢false (sym e ∙ get_or_past asked id false past)) ]

same-length : (asked : List Bool) (of : TypeId) → length (simples_with asked of) ≡ length asked
same-length asked AnyType = refl
same-length asked (Builtin kind) = refl
same-length asked (Complex id) = refl
same-length asked (Simple id) = length-set asked id true

marked-now : (asked : List Bool) (of : TypeId) (id : ℕ) → of ≡ Simple id → id < length asked → slice_index_or (simples_with asked of) id false ≡ true
marked-now asked of id e low = subst (λ (x : TypeId). slice_index_or (simples_with asked x) id false ≡ true) (sym e) (get_or-set_same asked id true false low)

marked-still : (asked : List Bool) (of : TypeId) (id : ℕ) → slice_index_or asked id false ≡ true → slice_index_or (simples_with asked of) id false ≡ true
marked-still asked AnyType id e = e
marked-still asked (Builtin kind) id e = e
marked-still asked (Complex other) id e = e
marked-still asked (Simple other) id e = elim (cases_eq id other) [
  | inl same ↦ marked-now asked (Simple other) id (ap Simple (sym same)) (marked-within asked id e)
  | inr apart ↦ get_or-set_other asked other id true false apart ∙ e
]

module _ (t : Tables) where
  -- a simple type of the tables has a place
  pub has-place : (asked : List Bool) → length asked ≡ length t.simples.parts → (of : TypeId) → IsType t of → (id : ℕ) → of ≡ Simple id → id < length asked
  has-place asked len of there id e = let low : id < length t.simples.parts = subst (IsType t) e there in omega (arith, low, len)

  -- one more element
  pub asked-more : (n : ℕ) (asked : List Bool) → AreAsked t n asked → (of : TypeId) → of ≡ type_of t n → IsType t of → AreAsked t (n + 1) (simples_with asked of)
  asked-more n asked are of is there = record { len = same-length asked of ∙ are.len; each = each }
    where
      each : (element id : ℕ) → element < n + 1 → type_of t element ≡ Simple id → slice_index_or (simples_with asked of) id false ≡ true
      each element id low e = elim (cases_eq element n) [
        | inl one ↦ let named : of ≡ Simple id = is ∙ (ap (type_of t) (sym one) ∙ e) in marked-now asked of id named (has-place asked are.len of there id named)
        | inr apart ↦ marked-still asked of id (are.each element id (omega (arith, low, apart)) e)
      ]

  -- what is known of a type is what is within it
  pub marks-base : (unions : List (Option Marks)) → AreUnions t unions → (base : TypeId) (marks : Marks) → marks_of unions base ≡ Some marks → marks.base ≡ base
  marks-base unions are AnyType marks e = absurd (none-some marks e)
  marks-base unions are (Builtin kind) marks e = absurd (none-some marks e)
  marks-base unions are (Complex id) marks e = absurd (none-some marks e)
  marks-base unions are (Simple id) marks e = (are id marks e).1

  module _ (asked : List Bool) (unions : List (Option Marks)) (looked : AreLooked t asked (length t.simples.parts) unions) where
    -- what is known is so
    pub unions-are : AreUnions t unions
    unions-are n marks e = elim (cases_lt n (length t.simples.parts)) [
      | inl low ↦ let union = looked.each n low in let within : IfSome (Some marks) (λ m. AreWithin t m × (m.base ≡ Simple n)) = rw e at union.within in within
      | inr past ↦ absurd (none-some marks (sym (get_or_past unions n None (omega (arith, past, looked.len))) ∙ e))
    ]

    -- what is not known of the type of an element has no members
    pub asked-found : AreAsked t (length t.elements.parts) asked → (element : ℕ) → element < length t.elements.parts → (of : TypeId) → type_of t element ≡ of → IsType t of → IsFound t unions of
    asked-found are element low AnyType is there = tt
    asked-found are element low (Builtin kind) is there = tt
    asked-found are element low (Complex id) is there = tt
    asked-found are element low (Simple id) is there = λ none. let union = looked.each id there in union.none (are.each element id low is) none
