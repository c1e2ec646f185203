-- What a prefix is resolved to is a namespace of the table.
use Rattle.std.proofs.Common.{◌≡◌, ◌≢◌, ℕ, ◌<◌, List, [], ◌∷◌, Bool, true, false, Option, None, Some, bytes_eq, refl, sym, subst, ◌∙◌}
use Rattle.std.specs.Prelude.{All, unwrap_or, if◌then◌else◌}
use Rattle.std.proofs.lemmas.List.Elements.{All-head, All-tail}
use Rattle.xs_names.specs.Scope.{binding_of, resolved}

none-some : {X : Type 0} (x : X) → None ≡ Some x → ⊥
none-some x e = cc

some-same : {X : Type 0} (a b : X) → Some a ≡ Some b → a ≡ b
some-same a b e = cc

module _ (count : ℕ) where
  abbrev IsKnown : List ℕ × ℕ → Type 0
  IsKnown b = b.1 < count

  chosen-known : (first space : ℕ) (rest : Option ℕ) → first < count → (rest ≡ Some space → space < count) → (test : Bool) → (if test then Some first else rest) ≡ Some space → space < count
  chosen-known first space rest l more true e = subst (λ (n : ℕ). n < count) (some-same first space e) l
  chosen-known first space rest l more false e = more e

  binding-known : (scope : List (List ℕ × ℕ)) (prefix : List ℕ) (space : ℕ) → All IsKnown scope → binding_of scope prefix ≡ Some space → space < count
  binding-known [] prefix space all e = absurd (none-some space e)
  binding-known (b ∷ scope) prefix space all e =
      chosen-known b.1 space (binding_of scope prefix) (All-head IsKnown b scope all) (binding-known scope prefix space (All-tail IsKnown b scope all)) (bytes_eq b.0 prefix) e

  default-known : (scope : List (List ℕ × ℕ)) (space : ℕ) → All IsKnown scope → space ≢ 0 → (o : Option ℕ) → binding_of scope [] ≡ o → Some (unwrap_or o 0) ≡ Some space → space < count
  default-known scope space all other None is e = absurd (other (sym (some-same 0 space e)))
  default-known scope space all other (Some s) is e = binding-known scope [] space all (is ∙ e)

  pub resolved-known : (scope : List (List ℕ × ℕ)) (prefix : Option (List ℕ)) (space : ℕ) → All IsKnown scope → resolved scope prefix ≡ Some space → space ≢ 0 → space < count
  resolved-known scope (Some prefix) space all e other = binding-known scope prefix space all e
  resolved-known scope None space all e other = default-known scope space all other (binding_of scope []) refl e
