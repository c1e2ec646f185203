-- White space: XML 1.0, 2.3.
use Rattle.std.specs.Prelude.{ℕ, List, Bool, ◌==◌, ◌||◌}
use Rattle.std.specs.List.{list_all}

-- space, tab, line feed and carriage return
abbrev pub is_white : List ℕ → Bool
is_white bytes = list_all (λ b. (b == 32 || b == 9) || (b == 10 || b == 13)) bytes
