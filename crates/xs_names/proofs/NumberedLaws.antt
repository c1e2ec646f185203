-- What the set of pairs says, in the words of numbering.
use Rattle.std.proofs.Common.{◌≡◌, false, List, [], ◌∷◌, ◌++◌, map, None, ap, ◌∙◌, if◌then◌else◌}
use Rattle.std.specs.List.{list_any}
use Rattle.std.proofs.lemmas.List.{map_push}
use Rattle.key_sets.specs.Keys.{with_key}
use Rattle.xs_names.specs.Numbering.{number_of, same_pair}
use Rattle.xs_names.specs.Pairs.{numbers}
use Rattle.xs_names.specs.declared.numbered.Pair.{Pair}
use Rattle.xs_names.proofs.NumberingLaws.{list_any-map, list_any-absent}

-- a pair that was not there comes last
pub with_key-new_pair : (keys : List Pair) (pair : Pair) → number_of same_pair (map numbers keys) (numbers pair) ≡ None
    → map numbers (with_key (λ x y. same_pair (numbers x) (numbers y)) keys pair) ≡ map numbers keys ++ numbers pair ∷ []
with_key-new_pair keys pair n =
    let absent : list_any (same_pair (numbers pair)) (map numbers keys) ≡ false = list_any-absent (same_pair (numbers pair)) 0 (map numbers keys) n in
    let none : list_any (λ y. same_pair (numbers pair) (numbers y)) keys ≡ false = list_any-map numbers (same_pair (numbers pair)) keys ∙ absent in
    ap (λ b. map numbers (if b then keys else keys ++ pair ∷ [])) none ∙ map_push numbers keys pair
