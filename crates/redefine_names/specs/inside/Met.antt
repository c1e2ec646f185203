-- Which originals were met, as the code has them.
use Rattle.std.specs.Prelude.{◌≡◌, ℕ, Bool, false, List, Option, None, Some, take}
use Rattle.std.specs.List.{list_any}
use Rattle.redefine_names.specs.Shared.{is_original}

-- the original is among those that were met
abbrev pub was_met : (ℕ → Bool) → Option ℕ → Bool
was_met met None = false
was_met met (Some original) = met original

-- the originals of the components below this place were met
abbrev pub AreMet : List (Option ℕ) → ℕ → (ℕ → Bool) → Type 0
AreMet originals place met = (o : ℕ) → met o ≡ list_any (is_original o) (take place originals)
