-- Scopes, and the lists of bindings that they are kept as.
use Rattle.std.proofs.Common.{◌≡◌, ℕ, ◌-◌, List, [], ◌∷◌, ◌++◌, length, take, drop, reverse, bytes_eq, Bool, true, false, Option, Some, None, refl, sym, ap, ◌∙◌, arith}
use Rattle.std.proofs.lemmas.List.{length-append, length-reverse, length-take, reverse-append, take-append-drop, drop_at}
use Rattle.std.specs.List.{find}
use Rattle.std.specs.Option.{option_map}
use Rattle.tree_rows.specs.declared.row.Binding.{Binding}
use Rattle.tag_names.specs.Scopes.{of_prefix}

-- the first of a list are the last of its reverse
pub reverse-take : {X : Type 0} (n : ℕ) (xs : List X) → reverse (take n xs) ≡ drop (length (reverse xs) - n) (reverse xs)
reverse-take n xs =
    let parts : reverse xs ≡ reverse (drop n xs) ++ reverse (take n xs) = ap reverse (sym (take-append-drop n xs)) ∙ reverse-append (take n xs) (drop n xs) in
    let behind : length (reverse (drop n xs)) ≡ length (reverse xs) - n = length-reverse (drop n xs) ∙ omega (arith, length-reverse xs, length-append (take n xs) (drop n xs), ap length (take-append-drop n xs), length-take n xs) in
    sym (ap (drop (length (reverse xs) - n)) parts ∙ drop_at (reverse (drop n xs)) (reverse (take n xs)) (length (reverse xs) - n) behind)

-- the name of the namespace of a binding that was found
abbrev pub found_space : Option Binding → Option (List ℕ)
found_space found = option_map (λ b. b.namespace) found

pub found-first : (prefix : List ℕ) (bindings : List Binding) → found_space (find (λ b. bytes_eq b.prefix prefix) bindings) ≡ of_prefix bindings prefix
found-first prefix [] = refl
found-first prefix (b ∷ bindings) = by (bytes_eq b.prefix prefix) refl (found-first prefix bindings)
  where
    by : (r : Bool) → bytes_eq b.prefix prefix ≡ r → found_space (find (λ b. bytes_eq b.prefix prefix) bindings) ≡ of_prefix bindings prefix
        → found_space (find (λ b. bytes_eq b.prefix prefix) (b ∷ bindings)) ≡ of_prefix (b ∷ bindings) prefix
    by true e rest = rw e refl
    by false e rest = rw e rest

-- a prefix is looked for in the first bindings, and then in those behind them
pub of_prefix-found : (own scope : List Binding) (prefix space : List ℕ) → Some space ≡ of_prefix own prefix → of_prefix (own ++ scope) prefix ≡ Some space
of_prefix-found [] scope prefix space e = cc
of_prefix-found (b ∷ own) scope prefix space e = by (bytes_eq b.prefix prefix) refl e (of_prefix-found own scope prefix space)
  where
    by : (r : Bool) → bytes_eq b.prefix prefix ≡ r → Some space ≡ of_prefix (b ∷ own) prefix
        → (Some space ≡ of_prefix own prefix → of_prefix (own ++ scope) prefix ≡ Some space) → of_prefix ((b ∷ own) ++ scope) prefix ≡ Some space
    by true e f rest = rw e (sym (rw e at f))
    by false e f rest = rw e (rest (rw e at f))

pub of_prefix-absent : (own scope : List Binding) (prefix : List ℕ) → None ≡ of_prefix own prefix → of_prefix (own ++ scope) prefix ≡ of_prefix scope prefix
of_prefix-absent [] scope prefix e = refl
of_prefix-absent (b ∷ own) scope prefix e = by (bytes_eq b.prefix prefix) refl e (of_prefix-absent own scope prefix)
  where
    by : (r : Bool) → bytes_eq b.prefix prefix ≡ r → None ≡ of_prefix (b ∷ own) prefix
        → (None ≡ of_prefix own prefix → of_prefix (own ++ scope) prefix ≡ of_prefix scope prefix) → of_prefix ((b ∷ own) ++ scope) prefix ≡ of_prefix scope prefix
    by true e f rest = let bad : None ≡ Some b.namespace = rw e at f in cc
    by false e f rest = rw e (rest (rw e at f))
