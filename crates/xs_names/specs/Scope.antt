-- The prefixes in scope: Namespaces in XML 1.0, 6. A scope is its bindings of prefixes to namespaces, the latest first.
use Rattle.std.specs.Prelude.{◌≡◌, ℕ, List, [], ◌∷◌, Option, None, Some, bytes_eq, codes, unwrap_or, if◌then◌else◌, refl}
use Rattle.xs_names.specs.declared.scope.ScopeBinding.{ScopeBinding}

-- the prefix and the namespace of a binding
abbrev pub prefix_and_space : ScopeBinding → List ℕ × ℕ
prefix_and_space b = (b.prefix, b.ns)

-- the scope outside of all elements binds the prefix xml alone (Namespaces in XML 1.0, 3)
abbrev pub first_scope : List (List ℕ × ℕ)
first_scope = (codes "xml", 1) ∷ []

-- the namespace that the latest binding of the prefix gives
abbrev pub binding_of : List (List ℕ × ℕ) → List ℕ → Option ℕ
binding_of [] prefix = None
binding_of (binding ∷ scope) prefix = if bytes_eq binding.0 prefix then Some binding.1 else binding_of scope prefix

-- the namespace of a name with or without a prefix; without one it is the default namespace, else the absent one (Namespaces in XML 1.0, 6.2)
abbrev pub resolved : List (List ℕ × ℕ) → Option (List ℕ) → Option ℕ
resolved scope (Some prefix) = binding_of scope prefix
resolved scope None = Some (unwrap_or (binding_of scope []) 0)

-- for example
pub example-latest : resolved ((codes "p", 3) ∷ (codes "p", 2) ∷ first_scope) (Some (codes "p")) ≡ Some 3
example-latest = refl

pub example-unbound : resolved first_scope (Some (codes "p")) ≡ None
example-unbound = refl

pub example-default : resolved (([], 0) ∷ ([], 2) ∷ first_scope) None ≡ Some 0
example-default = refl
