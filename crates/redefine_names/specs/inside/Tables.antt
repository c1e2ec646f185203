-- Representations renamed by tables.
use Rattle.std.specs.Prelude.{ℕ, suc, List, [], ◌∷◌, Option, None, slice_index_or}
use Rattle.representations.specs.declared.parts.Representation.{Representation}
use Rattle.redefine_names.specs.declared.redirections.Redirection.{Redirection}
use Rattle.redefine_names.specs.Renamed.{renamed_as}

abbrev pub renamed_by : List (Option ℕ) → List (Option Redirection) → ℕ → List Representation → List Representation
renamed_by names redirections place [] = []
renamed_by names redirections place (rep ∷ more) =
    renamed_as (slice_index_or names place None) (slice_index_or redirections place None) rep ∷ renamed_by names redirections (suc place) more
