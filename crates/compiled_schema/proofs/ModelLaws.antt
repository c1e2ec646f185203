-- The automaton in the place of a complex type.
use Rattle.std.proofs.Common.{◌≡◌, ℕ, ◌≤◌, Option, None, Some, length, inl, inr, sym, ap, subst, ◌∙◌}
use Rattle.std.specs.Prelude.{MatchOption, slice_index_or, slice_get}
use Rattle.std.specs.Option.{option_map, option_and_then, unwrap_or}
use Rattle.std.proofs.lemmas.Bool.{cases_lt}
use Rattle.std.proofs.lemmas.Option.{slice_get-get_or, slice_get_past, unwrap_or-slice_get}
use Rattle.xs_names.specs.Names.{NameTable}
use Rattle.content_models.specs.declared.automaton.ContentAutomaton.{ContentAutomaton}
use Rattle.schema_models.specs.SetModels.{content_of}
use Rattle.compiled_schema.specs.declared.compiled.Compiled.{Compiled}
use Rattle.compiled_schema.specs.Usable.{IsModelOver, HasModelOver, AreModels}

-- what is told of a value is told of what shows it
told-by : {X Y : Type 0} (view : X → Y) (result : Option X) (A : Type 0) (B : Y → Type 0) → MatchOption (option_map view result) A B → MatchOption result A (λ x. B (view x))
told-by view None A B h = h
told-by view (Some x) A B h = h

module _ (c : Compiled) (first : NameTable) where
  abbrev pub IsAutomatonAt : ℕ → ContentAutomaton → Type 0
  IsAutomatonAt n a = (p : ℕ) × (content_of c.parts n ≡ Some p) × IsModelOver first c p a

  abbrev IsKnown : ℕ → Option ContentAutomaton → Type 0
  IsKnown n model = MatchOption model (content_of c.parts n ≡ None) (IsAutomatonAt n)

  known : (n : ℕ) (model : Option ContentAutomaton) → HasModelOver first c n model → IsKnown n model
  known n None h = h
  known n (Some a) h = h

  at-number : AreModels c first → (n : ℕ) → IsKnown n (slice_index_or c.models n None)
  at-number h n = elim (cases_lt n (length c.models)) [
    | inl l ↦ known n (slice_index_or c.models n None) (h.are n (slice_index_or c.models n None) (slice_get-get_or c.models n None l))
    | inr past ↦
        let nothing : slice_index_or c.models n None ≡ None = sym (unwrap_or-slice_get c.models n None) ∙ ap (λ o. unwrap_or o None) (slice_get_past c.models n past) in
        let content : slice_get c.parts.contents n ≡ None = slice_get_past c.parts.contents n (subst (λ k. k ≤ n) (h.each ∙ sym h.contents_each) past) in
        subst (IsKnown n) (sym nothing) (ap (λ o. option_and_then (λ content. content) o) content)
  ]

  pub model-at : {X : Type 0} (view : X → ContentAutomaton) (result : Option X) (n : ℕ) → option_map view result ≡ slice_index_or c.models n None → AreModels c first
      → MatchOption result (content_of c.parts n ≡ None) (λ x. IsAutomatonAt n (view x))
  model-at view result n is h = told-by view result (content_of c.parts n ≡ None) (IsAutomatonAt n) (subst (IsKnown n) (sym is) (at-number h n))
