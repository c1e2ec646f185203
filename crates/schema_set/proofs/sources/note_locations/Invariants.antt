use Rattle.std.proofs.Common.{◌≡◌, ℕ, List, take, bytes_eq, if◌then◌else◌, Some, None}
use Rattle.std.specs.List.{list_any}
use Rattle.std.specs.Option.{option_or}
use Rattle.std.specs.HashMap.{get_by_text}
use Rattle.xs_names.specs.WhiteSpace.{collapsed}
use Rattle.schema_set.proofs.sources.note_locations.Given as goal

abbrev pub invariant-loop-location : goal.invariant-loop-location
invariant-loop-location l = (key : List ℕ) → get_by_text l.numbers key
    ≡ option_or (get_by_text l.initial.numbers key) (if list_any (λ other. bytes_eq (collapsed other) key) (take l.location-index l.locations) then Some l.number else None)
