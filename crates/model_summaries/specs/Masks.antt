-- What children do to the state of an all (Structures 3.8.4).
use Rattle.std.specs.Prelude.{ℕ, ◌^◌, ◌==◌, ◌||◌, not, Bool, true, false, nat_lt, bit_and, bit_or, if◌then◌else◌}
use Rattle.content_models.specs.declared.state.AllState.{AllState}
use Rattle.model_summaries.specs.declared.map.AllMap.{AllMap}

-- two sets of members, as the bits of numbers, have one in common
abbrev pub meets : ℕ → ℕ → Bool
meets one other = not (bit_and one other == 0)

-- no children add no member and stop no word
abbrev pub no_children : AllMap
no_children = record { adds = 0; stops = false }

-- a child of the member of this number adds it; a child of no member stops every word
abbrev pub of_letter : ℕ → AllMap
of_letter letter = if nat_lt letter 64 then record { adds = 2 ^ letter; stops = false } else record { adds = 0; stops = true }

-- children and then others stop every word where either do, or where some of both are of one member
abbrev pub joined : AllMap → AllMap → AllMap
joined m n = record { adds = bit_or m.adds n.adds; stops = (m.stops || n.stops) || meets m.adds n.adds }

-- the state after the children
abbrev pub acts : AllMap → AllState → AllState
acts m s = record { seen = bit_or s.seen m.adds; dead = (s.dead || m.stops) || meets s.seen m.adds }
