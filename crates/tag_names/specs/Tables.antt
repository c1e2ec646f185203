-- What the table of a scope keeps: entries, the latest first, and the place of the latest binding of each prefix, counted from the first one.
use Rattle.std.specs.Prelude.{◌≡◌, ℕ, List, [], ◌∷◌, Option, Some, None, length, map, String, if◌then◌else◌}
use Rattle.std.specs.Str.{bytes_eq}
use Rattle.std.specs.HashMap.{HashMap, get_by_text}
use Rattle.tree_rows.specs.declared.row.Binding.{Binding}
use Rattle.tag_names.specs.declared.prefixes.Entry.{Entry}

abbrev pub bindings_of : List Entry → List Binding
bindings_of entries = map (λ e. e.binding) entries

-- the place of the latest binding of the prefix
abbrev pub place_of : List Entry → List ℕ → Option ℕ
place_of [] prefix = None
place_of (e ∷ older) prefix = if bytes_eq e.binding.prefix prefix then Some (length older) else place_of older prefix

-- each entry has the place of the binding that it hides
abbrev pub Hides : List Entry → Type 0
Hides [] = Unit {0}
Hides (e ∷ older) = (e.hidden ≡ place_of older e.binding.prefix) × Hides older

pub record IsTable {Z S : Type 0} (entries : List Entry) (latest : HashMap (String Z) ℕ S) : Type 0 where
  pub places : (prefix : List ℕ) → get_by_text latest prefix ≡ place_of entries prefix
  pub hides : Hides entries
