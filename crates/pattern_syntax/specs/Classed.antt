-- The class that is being read.
use Rattle.std.specs.Prelude.{ℕ, true, false, List, [], ◌∷◌, ◌++◌}
use Rattle.pattern_syntax.specs.declared.class.ClassItem.{ClassItem}
use Rattle.pattern_syntax.specs.declared.class.ClassItem.TheVariants.{Range}
use Rattle.pattern_syntax.specs.Classes.{Group, Class}
use Rattle.pattern_syntax.specs.Built.{change_last}

-- the class in hand: its groups that are done, and the one in hand
pub record Classed : Type 0 where
  pub groups : List Group
  pub hand : Group

abbrev pub no_group : Group
no_group = record { negated = false; items = [] }

abbrev pub no_class : Classed
no_class = record { groups = []; hand = no_group }

abbrev pub with_item : Classed → ClassItem → Classed
with_item k item = record { groups = k.groups; hand = record { negated = k.hand.negated; items = k.hand.items ++ item ∷ [] } }

abbrev pub with_range : Classed → ℕ → ℕ → Classed
with_range k first last = record { groups = k.groups; hand = record { negated = k.hand.negated; items = change_last (λ item. Range first last) k.hand.items } }

abbrev pub with_negation : Classed → Classed
with_negation k = record { groups = k.groups; hand = record { negated = true; items = k.hand.items } }

abbrev pub with_group : Classed → Classed
with_group k = record { groups = k.groups ++ k.hand ∷ []; hand = no_group }

abbrev pub whole_class : Classed → Class
whole_class k = k.groups ++ k.hand ∷ []
