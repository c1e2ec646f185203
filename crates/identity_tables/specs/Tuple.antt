-- Tuples of keys: Structures 3.11.4.
use Rattle.std.specs.Prelude.{Bool, List}
use Rattle.std.specs.Cmp.Lexicographic.{pointwise}
use Rattle.simple_values.specs.declared.key.Key.{Key}
use Rattle.simple_values.specs.contracts.key.KeyPartialEq.TheImpl as equality_of_keys

-- two tuples are equal where they have equal keys in the same order; two keys are equal by `==` exactly where they are one
abbrev pub same_tuple : List Key → List Key → Bool
same_tuple a b = pointwise equality_of_keys.eq-value.it a b
