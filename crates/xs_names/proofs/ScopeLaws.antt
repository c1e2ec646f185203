-- Scopes, and the list of bindings that one is kept as.
use Rattle.std.proofs.Common.{◌≡◌, ℕ, List, [], ◌∷◌, ◌++◌, map, reverse, bytes_eq, codes, Bool, true, false, Option, None, Some, refl, sym, ap, ◌∙◌}
use Rattle.std.proofs.lemmas.Option.{none-some}
use Rattle.std.proofs.lemmas.List.{reverse-append, reverse-reverse, map_push}
use Rattle.std.specs.List.{find}
use Rattle.std.specs.Option.{option_map}
use Rattle.xs_names.specs.declared.scope.ScopeBinding.{ScopeBinding}
use Rattle.xs_names.specs.Scope.{prefix_and_space, first_scope, binding_of}

-- what is made of each of a reverse
pub map-reverse : {X Y : Type 0} (f : X → Y) (xs : List X) → map f (reverse xs) ≡ reverse (map f xs)
map-reverse f [] = refl
map-reverse f (x ∷ xs) = ap (map f) (reverse-append (x ∷ []) xs) ∙ map_push f (reverse xs) x ∙ ap (λ l. l ++ f x ∷ []) (map-reverse f xs) ∙ sym (reverse-append (f x ∷ []) (map f xs))

-- the number of the namespace of a binding that was found
abbrev pub found_number : Option ScopeBinding → Option ℕ
found_number found = option_map (λ b. b.ns) found

binding_of-find : (prefix : List ℕ) (bindings : List ScopeBinding) → found_number (find (λ b. bytes_eq b.prefix prefix) bindings) ≡ binding_of (map prefix_and_space bindings) prefix
binding_of-find prefix [] = refl
binding_of-find prefix (b ∷ bindings) = by (bytes_eq b.prefix prefix) refl (binding_of-find prefix bindings)
  where
    by : (r : Bool) → bytes_eq b.prefix prefix ≡ r → found_number (find (λ b. bytes_eq b.prefix prefix) bindings) ≡ binding_of (map prefix_and_space bindings) prefix
        → found_number (find (λ b. bytes_eq b.prefix prefix) (b ∷ bindings)) ≡ binding_of (map prefix_and_space (b ∷ bindings)) prefix
    by true e rest = rw e refl
    by false e rest = rw e rest

binding_of-reverse : (prefix : List ℕ) (bindings : List ScopeBinding) → found_number (find (λ b. bytes_eq b.prefix prefix) (reverse bindings)) ≡ binding_of (reverse (map prefix_and_space bindings)) prefix
binding_of-reverse prefix bindings = binding_of-find prefix (reverse bindings) ∙ ap (λ scope. binding_of scope prefix) (map-reverse prefix_and_space bindings)

-- the latest binding of a prefix is found among these, or, where there is none, among those that came before
binding_of-later : (prefix : List ℕ) (ns : ℕ) (later earlier : List (List ℕ × ℕ)) → binding_of later prefix ≡ Some ns → binding_of (later ++ earlier) prefix ≡ Some ns
binding_of-later prefix ns [] earlier e = absurd (none-some ns e)
binding_of-later prefix ns (b ∷ later) earlier e = by (bytes_eq b.0 prefix) refl (binding_of-later prefix ns later earlier) e
  where
    by : (r : Bool) → bytes_eq b.0 prefix ≡ r → (binding_of later prefix ≡ Some ns → binding_of (later ++ earlier) prefix ≡ Some ns) → binding_of (b ∷ later) prefix ≡ Some ns
        → binding_of (b ∷ later ++ earlier) prefix ≡ Some ns
    by true q rest e = rw q (rw q at e)
    by false q rest e = rw q (rest (rw q at e))

binding_of-earlier : (prefix : List ℕ) (later earlier : List (List ℕ × ℕ)) → binding_of later prefix ≡ None → binding_of (later ++ earlier) prefix ≡ binding_of earlier prefix
binding_of-earlier prefix [] earlier e = refl
binding_of-earlier prefix (b ∷ later) earlier e = by (bytes_eq b.0 prefix) refl (binding_of-earlier prefix later earlier) e
  where
    by : (r : Bool) → bytes_eq b.0 prefix ≡ r → (binding_of later prefix ≡ None → binding_of (later ++ earlier) prefix ≡ binding_of earlier prefix) → binding_of (b ∷ later) prefix ≡ None
        → binding_of (b ∷ later ++ earlier) prefix ≡ binding_of earlier prefix
    by true q rest e = absurd (none-some b.1 (sym (rw q at e)))
    by false q rest e = rw q (rest (rw q at e))

module _ (prefix : List ℕ) (bindings : List ScopeBinding) where
  abbrev latest : Option ScopeBinding
  latest = find (λ b. bytes_eq b.prefix prefix) (reverse bindings)

  pub binding-found : (ns : ℕ) → found_number latest ≡ Some ns → binding_of (reverse (map prefix_and_space bindings) ++ first_scope) prefix ≡ Some ns
  binding-found ns e = binding_of-later prefix ns _ first_scope (sym (binding_of-reverse prefix bindings) ∙ e)

  pub binding-first : found_number latest ≡ None → binding_of (reverse (map prefix_and_space bindings) ++ first_scope) prefix ≡ binding_of first_scope prefix
  binding-first e = binding_of-earlier prefix _ first_scope (sym (binding_of-reverse prefix bindings) ∙ e)

-- bindings behind that of the prefix xml
abbrev pub xml-before : List (List ℕ × ℕ) → List (List ℕ × ℕ)
xml-before bound = (codes "xml", 1) ∷ bound

-- all bindings in the order of their coming
pub all-bindings : (bound : List (List ℕ × ℕ)) → xml-before bound ≡ reverse (reverse bound ++ first_scope)
all-bindings bound = sym (reverse-append (reverse bound) first_scope ∙ ap xml-before (reverse-reverse bound))
