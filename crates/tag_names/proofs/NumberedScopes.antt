-- Scopes of numbered namespaces.
use Rattle.std.proofs.Common.{◌≡◌, ◌∙◌, ◌<◌, ℕ, List, [], ◌∷◌, map, reverse, All, sym, ap, subst}
use Rattle.std.proofs.lemmas.List.{reverse-append, reverse-reverse}
use Rattle.std.proofs.lemmas.List.Elements.{All-nil, All-cons, All-head, All-tail, All-append}
use Rattle.std.proofs.lemmas.Simd.{map-map}
use Rattle.xs_names.proofs.ScopeLaws.{map-reverse}
use Rattle.xs_names.specs.declared.scope.ScopeBinding.{ScopeBinding}
use Rattle.xs_names.specs.Names.{NameTable}
use Rattle.xs_names.specs.Scope.{prefix_and_space}
use Rattle.tag_names.specs.Scopes.{binding_in}

All-reverse : {X : Type 0} (P : X → Type 0) (xs : List X) → All P xs → All P (reverse xs)
All-reverse P [] h = h
All-reverse P (x ∷ xs) h =
    subst (All P) (sym (reverse-append (x ∷ []) xs))
    (All-append P (reverse xs) (x ∷ []) (All-reverse P xs (All-tail P x xs h)) (All-cons P x [] (All-head P x xs h) (All-nil P)))

All-unmap : {X Y : Type 0} (P : Y → Type 0) (f : X → Y) (xs : List X) → All P (map f xs) → All (λ x. P (f x)) xs
All-unmap P f [] h = All-nil (λ x. P (f x))
All-unmap P f (x ∷ xs) h = All-cons (λ x. P (f x)) x xs (All-head P (f x) (map f xs) h) (All-unmap P f xs (All-tail P (f x) (map f xs) h))

-- the namespaces of the bindings are those of the scope
pub spaces_below : (n : ℕ) (bindings : List ScopeBinding) (scope : List (List ℕ × ℕ)) → map prefix_and_space bindings ≡ reverse scope
    → All (λ b. b.1 < n) scope → All (λ (b : ScopeBinding). b.ns < n) bindings
spaces_below n bindings scope e h =
    All-unmap (λ b. b.1 < n) prefix_and_space bindings (subst (All (λ (b : List ℕ × ℕ). b.1 < n)) (sym e) (All-reverse (λ b. b.1 < n) scope h))

-- the bindings by the names of their namespaces, the latest first
pub by_names : (names : NameTable) (bindings : List ScopeBinding) (scope : List (List ℕ × ℕ)) → map prefix_and_space bindings ≡ reverse scope
    → map (λ b. binding_in names (prefix_and_space b)) (reverse bindings) ≡ map (binding_in names) scope
by_names names bindings scope e =
    sym (map-map (binding_in names) prefix_and_space (reverse bindings))
    ∙ ap (map (binding_in names)) (map-reverse prefix_and_space bindings ∙ ap reverse e ∙ reverse-reverse scope)
