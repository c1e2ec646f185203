-- The automaton of a type is that of its content model.
use Rattle.std.proofs.Common.{◌≡◌, ℕ, zero, suc, ◌≤◌, List, [], ◌∷◌, Option, None, Some, get_or, length, refl, sym, ap, ◌∙◌, subst, inl, inr, arith}
use Rattle.std.specs.Prelude.{slice_get, slice_index_or}
use Rattle.std.specs.Option.{option_and_then}
use Rattle.std.proofs.lemmas.Bool.{cases_lt}
use Rattle.std.proofs.lemmas.Option.{same_Some, none-some, slice_get_past, slice_get-get_or}
use Rattle.xs_names.specs.Names.{NameTable}
use Rattle.xs_components.specs.declared.common.TypeId.{TypeId}
use Rattle.xs_components.specs.declared.common.TypeId.TheVariants.{AnyType, Builtin, Simple, Complex}
use Rattle.content_models.specs.declared.automaton.ContentAutomaton.{ContentAutomaton}
use Rattle.assessment.specs.Attribution.{content_particle}
use Rattle.assessment.specs.Fitting.{Fits}
use Rattle.compiled_schema.specs.Usable.{set_of, HasModelOver, AreModels}
use Rattle.compiled_schema.specs.declared.compiled.Compiled.{Compiled}
use Rattle.kept_records.specs.Fit.{models_of}

at-get : {X : Type 0} (xs : List X) (n : ℕ) (x d : X) → slice_get xs n ≡ Some x → get_or xs n d ≡ x
at-get [] n x d e = absurd (none-some x e)
at-get (y ∷ ys) zero x d e = same_Some y x e
at-get (y ∷ ys) (suc n) x d e = at-get ys n x d e

no-get : {X : Type 0} (xs : List X) (n : ℕ) (d : X) → slice_get xs n ≡ None → get_or xs n d ≡ d
no-get [] n d e = refl
no-get (y ∷ ys) zero d e = absurd (none-some y (sym e))
no-get (y ∷ ys) (suc n) d e = no-get ys n d e

module _ (c : Compiled) (first : NameTable) (models : AreModels c first) where
  fits-by : (n : ℕ) (model : Option ContentAutomaton) → HasModelOver first c n model → Fits (set_of c) (content_particle c.parts (Some (Complex n))) model
  fits-by n None is = subst (λ (p : Option ℕ). Fits (set_of c) p None) (sym is) tt
  fits-by n (Some a) is =
      subst (λ (p : Option ℕ). Fits (set_of c) p (Some a)) (sym is.1) (record {
        old = first;
        grown = models.grown;
        named = models.named;
        built = is.2.built;
        unambiguous = λ x y h. is.2.unambiguous (x, y, h);
      })

  no-content : (n : ℕ) → slice_get c.models n ≡ None → content_particle c.parts (Some (Complex n)) ≡ None
  no-content n e = elim (cases_lt n (length c.models)) [
    | inl l ↦ absurd (none-some _ (sym e ∙ slice_get-get_or c.models n None l))
    | inr past ↦
        let size : length c.parts.contents ≤ n = (let a = models.each in let b = models.contents_each in omega (arith, a, b, past)) in
        ap (option_and_then (λ (content : Option ℕ). content)) (slice_get_past c.parts.contents n size)
  ]

  complex-fits : (n : ℕ) (o : Option (Option ContentAutomaton)) → slice_get c.models n ≡ o → Fits (set_of c) (content_particle c.parts (Some (Complex n))) (slice_index_or c.models n None)
  complex-fits n (Some model) e =
      subst (λ (m : Option ContentAutomaton). Fits (set_of c) (content_particle c.parts (Some (Complex n))) m) (sym (at-get c.models n model None e)) (fits-by n model (models.are n model e))
  complex-fits n None e =
      subst (λ (m : Option ContentAutomaton). Fits (set_of c) (content_particle c.parts (Some (Complex n))) m) (sym (no-get c.models n None e))
      (subst (λ (p : Option ℕ). Fits (set_of c) p None) (sym (no-content n e)) tt)

  pub type-fits : (of : Option TypeId) → Fits (set_of c) (content_particle c.parts of) (models_of c of)
  type-fits None = tt
  type-fits (Some AnyType) = tt
  type-fits (Some (Builtin kind)) = tt
  type-fits (Some (Simple n)) = tt
  type-fits (Some (Complex n)) = complex-fits n (slice_get c.models n) refl
