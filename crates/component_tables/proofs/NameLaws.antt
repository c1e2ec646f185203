-- A place that has a name is one of the places.
use Rattle.std.proofs.Common.{◌≡◌, ◌≢◌, inl, inr, length-append, ℕ, suc, ◌+◌, ◌<◌, ◌≤◌, ◌==◌, List, [], ◌∷◌, Bool, true, false, Option, None, Some, length, sym, ap, ◌∙◌, arith}
use Rattle.std.specs.Prelude.{IfSome, IfNone, if◌then◌else◌}
use Rattle.std.specs.Option.{option_or}
use Rattle.std.proofs.lemmas.List.{length-map}
use Rattle.std.proofs.lemmas.Bool.{cases_eq}
use Rattle.xs_names.specs.Names.{NameTable, IsSound, absent_space, first_spaces}
use Rattle.xs_components.specs.Tables.{Tables}
use Rattle.component_tables.specs.Symbols.{if_named, first_from, first_place}
use Rattle.component_tables.specs.Named.{attribute_names, attribute_with, top_name, spaces_of, Spaces}

abbrev IsBelow : ℕ → Option ℕ → Type 0
IsBelow end place = IfSome place (λ p. p < end)

below-later : (i end : ℕ) (place : Option ℕ) → i < end → (b : Bool) → IsBelow end (if b then Some i else None)
below-later i end place l true = l
below-later i end place l false = tt

below-own : (own : Option ℕ) (i end name : ℕ) → i < end → IsBelow end (if_named own i name)
below-own None i end name l = tt
below-own (Some n) i end name l = below-later i end None l (n == name)

below-either : (end : ℕ) (a b : Option ℕ) → IsBelow end a → IsBelow end b → IsBelow end (option_or a b)
below-either end None b p q = q
below-either end (Some x) b p q = p

first-below : (names : List (Option ℕ)) (i end name : ℕ) → end ≡ i + length names → IsBelow end (first_from names i name)
first-below [] i end name e = tt
first-below (own ∷ names) i end name e =
    below-either end (if_named own i name) (first_from names (suc i) name)
    (below-own own i end name (omega arith))
    (first-below names (suc i) end name (omega arith))

-- the place that was found for a name of an attribute declaration
pub attribute-below : (t : Tables) (name place : ℕ) → first_place (attribute_names t) name ≡ Some place → place < length t.attributes.parts
attribute-below t name place e =
    let many : length t.attributes.parts ≡ 0 + length (attribute_names t) = (let e = length-map t.attributes.parts top_name in omega arith) in
    rw e at (first-below (attribute_names t) 0 (length t.attributes.parts) name many)

pub attribute-found : (t : Tables) (named : Spaces) (name place : ℕ) (found : Option ℕ) → Some place ≡ first_place named.attributes name →
    IfSome found (λ id. (id ≡ place) × (place < length t.attributes.parts)) → IfNone found (length t.attributes.parts ≤ place) →
    named ≡ spaces_of t → found ≡ attribute_with t name
attribute-found t named name place None e there past is =
    let at : first_place (attribute_names t) name ≡ Some place = ap (λ (n : Spaces). first_place n.attributes name) (sym is) ∙ sym e in
    absurd (let l = attribute-below t name place at in omega (arith, past))
attribute-found t named name place (Some id) e there past is =
    ap Some there.0 ∙ e ∙ ap (λ (n : Spaces). first_place n.attributes name) is

pub attribute-there : (place count : ℕ) (found : Option ℕ) → IfSome found (λ id. (id ≡ place) × (place < count)) → IfSome found (λ id. id < count)
attribute-there place count None there = tt
attribute-there place count (Some id) there = let e = there.0 in let l = there.1 in omega arith

-- the namespace of a name is one of the table's
pub space-known : (t : NameTable) (space : ℕ) → IsSound t → (space ≢ absent_space → space < length t.spaces) → space < length t.spaces
space-known t space sound known = elim (cases_eq space 0) [
  | inl e ↦ (let many : length t.spaces ≡ length first_spaces + length sound.begins.0 = ap length sound.begins.1 ∙ length-append first_spaces sound.begins.0 in omega arith)
  | inr other ↦ known other
]
