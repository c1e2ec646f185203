-- Below a way that is as long as the paths of a field there are no nodes of it.
use Rattle.std.proofs.Common.{◌≡◌, ◌≤◌, ◌<◌, ◌+◌, ◌++◌, ◌&&◌, ◌||◌, if◌then◌else◌, cond, ℕ, Bool, true, false, List, [], ◌∷◌, Option, None, Some, length, refl, sym, ap, ◌∙◌, subst, arith}
use Rattle.std.specs.List.{flat_map}
use Rattle.std.proofs.lemmas.List.{length-map, length_push}
use Rattle.std.proofs.lemmas.List.Elements.{All-head, All-tail}
use Rattle.std.proofs.lemmas.List.Sums.{sum_by-cons}
use Rattle.std.proofs.lemmas.Grind.{flat_map-append}
use Rattle.xs_names.specs.Names.{NameTable}
use Rattle.xpath_subset.specs.Reaches.{ExpandedName, expanded_name}
use Rattle.xpath_subset.specs.Reached.{admits, admits_attribute, leads, leads_down, path_reaches, reached}
use Rattle.xpath_subset.specs.inside.Steps.{child_count, is_child}
use Rattle.xpath_subset.specs.declared.path.Path.{Path}
use Rattle.xpath_subset.specs.declared.path.Step.{Step}
use Rattle.xpath_subset.specs.declared.path.Step.TheVariants.{Itself, Child}
use Rattle.identity_constraints.specs.Seen.{KeyAttribute, KeyElement, KeyForest, none, element}
use Rattle.identity_constraints.specs.Targets.{FieldNode, attribute_at, attribute_node, element_node, expanded, nodes_at}
use Rattle.path_walk.specs.inside.Ends.{EndsWithin}
use Rattle.path_walk.specs.inside.Walk.{nodes_along, reached as at, walk}

and-false : (a b : Bool) → b ≡ false → (a && b) ≡ false
and-false true b e = e
and-false false b e = refl

steps-more : (step : Step) (steps : List Step) → child_count (step ∷ steps) ≡ cond (is_child step) 1 0 + child_count steps
steps-more step steps = sum_by-cons (λ (x : Step). cond (is_child x) 1 0) step steps

too-long : (steps : List Step) (names : List ExpandedName) → child_count steps < length names → leads_down steps names ≡ false
too-long [] [] l = absurd (omega (arith, l))
too-long [] (name ∷ names) l = refl
too-long (Itself ∷ steps) names l = let sum = steps-more Itself steps in too-long steps names (omega (arith, sum, l))
too-long (Child test ∷ steps) [] l = absurd (omega (arith, l))
too-long (Child test ∷ steps) (name ∷ names) l =
    let sum = steps-more (Child test) steps in and-false (admits test name) (leads_down steps names) (too-long steps names (omega (arith, sum, l)))

abbrev EndsBy : ℕ → Path → Type 0
EndsBy depth path = (path.anywhere ≡ false) × (child_count path.steps ≤ depth)

not-leading : (path : Path) (depth : ℕ) → EndsBy depth path → (names : List ExpandedName) → depth < length names → leads path.anywhere path.steps names ≡ false
not-leading path depth ends names l =
    let few = ends.1 in
    subst (λ (b : Bool). leads b path.steps names ≡ false) (sym ends.0) (too-long path.steps names (omega (arith, few, l)))

not-reached : (field : List Path) (depth : ℕ) → EndsWithin field depth → (names : List ExpandedName) → depth < length names → (attribute : Option ExpandedName) → reached field names attribute ≡ false
unfolding reached
not-reached [] depth ends names l attribute = refl
not-reached (path ∷ field) depth ends names l attribute =
    let here : path_reaches path names attribute ≡ false =
    and-false (admits_attribute path.attribute attribute) (leads path.anywhere path.steps names) (not-leading path depth (All-head (EndsBy depth) path field ends) names l) in
    let rest = not-reached field depth (All-tail (EndsBy depth) path field ends) names l attribute in
    λ i. here i || rest i

module _ (names : NameTable) (field : List Path) (depth : ℕ) (ends : EndsWithin field depth) where
  long : (way : List ℕ) → depth < length way → depth < length (expanded names way)
  long way l = let same = length-map way (expanded_name names) in omega (arith, same, l)

  no-attributes : (way : List ℕ) → depth < length way → (xs : List KeyAttribute) → flat_map (attribute_at names field way) xs ≡ []
  no-attributes way l [] = refl
  no-attributes way l (x ∷ xs) =
      let one = not-reached field depth ends (expanded names way) (long way l) (Some (expanded_name names x.name)) in
      let more = no-attributes way l xs in
      λ i. (if one i then attribute_node x ∷ [] else []) ++ more i

  none-at : (way : List ℕ) → depth < length way → (own : KeyElement) (below : KeyForest) → nodes_at names field (at way own below) ≡ []
  none-at way l own below =
      let one = not-reached field depth ends (expanded names way) (long way l) None in
      let more = no-attributes way l own.attributes in
      λ i. (if one i then element_node own ∷ [] else []) ++ more i

  pub none-along : (way : List ℕ) → depth ≤ length way → (f : KeyForest) → nodes_along names field way f ≡ []
  none-along way l none = refl
  none-along way l (element own below next) =
      let down = way ++ own.name ∷ [] in
      let longer = length_push way own.name in
      let here = none-at down (omega (arith, l, longer)) own below in
      let under = none-along down (omega (arith, l, longer)) below in
      let behind = none-along way l next in
      ap (λ (xs : List FieldNode). nodes_at names field (at down own below) ++ xs) (flat_map-append (nodes_at names field) (walk down below) (walk way next)) ∙ (λ i. here i ++ (under i ++ behind i))
