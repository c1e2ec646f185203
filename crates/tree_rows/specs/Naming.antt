-- Expanded names (Namespaces in XML 1.0, 2.1).
use Rattle.std.specs.Prelude.{ℕ, List, ◌∷◌, ◌++◌, Bool, true, false, ◌&&◌, Option, Some, None}
use Rattle.std.specs.Str.{bytes_eq}
use Rattle.tree_rows.specs.declared.name.Expanded.{Expanded}

abbrev pub same_space : Option (List ℕ) → Option (List ℕ) → Bool
same_space None None = true
same_space None (Some other) = false
same_space (Some space) None = false
same_space (Some space) (Some other) = bytes_eq space other

-- the namespaces are the same, and the local parts
abbrev pub same_name : Expanded → Expanded → Bool
same_name one other = same_space one.namespace other.namespace && bytes_eq one.local other.local

-- local, or {namespace}local: with the namespace in braces before it where that is not the absent one
abbrev pub in_braces : Option (List ℕ) → List ℕ → List ℕ
in_braces None local = local
in_braces (Some space) local = (123 ∷ space) ++ (125 ∷ local)

abbrev pub clark_name : Expanded → List ℕ
clark_name name = in_braces name.namespace name.local
