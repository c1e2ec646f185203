-- Without paths nothing is selected.
use Rattle.std.proofs.Common.{◌≡◌, List, [], ◌∷◌, refl}
use Rattle.std.specs.List.{filter}
use Rattle.xs_names.specs.Names.{NameTable}
use Rattle.xpath_subset.specs.Reached.{reached}
use Rattle.identity_constraints.specs.Seen.{Reached}
use Rattle.identity_constraints.specs.Targets.{is_target}

pub no_target : (names : NameTable) (rs : List Reached) → filter (is_target names []) rs ≡ []
unfolding reached
no_target names [] = refl
no_target names (r ∷ rs) = no_target names rs
