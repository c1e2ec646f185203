-- Open elements, and the marks that they are kept as.
use Rattle.std.proofs.Common.{◌≡◌, ℕ, ◌-◌, List, [], ◌∷◌, ◌++◌, length, drop, refl, sym, ap, ◌∙◌, arith}
use Rattle.std.proofs.lemmas.List.{length-append, drop_at}
use Rattle.tree_rows.specs.declared.row.Binding.{Binding}
use Rattle.tree_building.specs.Nest.{scope_in, opened}
use Rattle.tree_building.specs.Marks.{before, elements_of, outer_of, nest_of}
use Rattle.tree_building.specs.declared.nest.Mark.{Mark}

pub length-elements : (bindings : List Binding) (marks : List Mark) → length (elements_of bindings marks) ≡ length marks
length-elements bindings [] = refl
length-elements bindings (mark ∷ marks) = let rest = length-elements (before mark bindings) marks in grind (arith, rest)

-- all bindings are the scope of what comes next
pub scope-all : (bindings : List Binding) (marks : List Mark) → scope_in (nest_of bindings marks) ≡ bindings
scope-all bindings [] = refl
scope-all bindings (mark ∷ marks) = refl

before-own : (own bindings : List Binding) → drop (length (own ++ bindings) - length bindings) (own ++ bindings) ≡ bindings
before-own own bindings =
    let count : length own ≡ length (own ++ bindings) - length bindings = omega (arith, length-append own bindings) in
    drop_at own bindings (length (own ++ bindings) - length bindings) count

-- an element more
pub nest-more : (own bindings : List Binding) (name : List ℕ) (marks : List Mark)
    → nest_of (own ++ bindings) (record { name = name; before = length bindings } ∷ marks) ≡ opened (nest_of bindings marks) name own
nest-more own bindings name marks =
    ap (λ bs. record { outer = outer_of bs marks; elements = record { name = name; scope = own ++ bindings } ∷ elements_of bs marks }) (before-own own bindings)
    ∙ ap (λ s. record { outer = outer_of bindings marks; elements = record { name = name; scope = own ++ s } ∷ elements_of bindings marks }) (sym (scope-all bindings marks))
