-- What is kept of the turns so far, by what they touched.
use Rattle.std.specs.Prelude.{◌≡◌, ℕ, ◌≤◌, Bool, false, cond, not, ◌&&◌, ◌==◌, List, Option, None, Some, IfSome}
use Rattle.std.specs.Map.{lookup}
use Rattle.edit_history.specs.declared.touch.Key.{Key}
use Rattle.edit_history.specs.declared.touch.Key.TheVariants.{Node, List as Children}
use Rattle.edit_history.specs.declared.touch.Touch.{Touch}
use Rattle.edit_history.specs.Turns.{Turn, same_node, latest}

-- what is kept of each thing that was touched
abbrev pub Touches : Type 0
Touches = List (Key × Touch)

-- that, and how many more things fit without taking memory
pub record Table : Type 0 where
  pub touches : Touches
  pub spare : ℕ

abbrev pub same_key : Key → Key → Bool
same_key (Node m) (Node n) = m == n
same_key (Node m) (Children n) = false
same_key (Children m) (Node n) = false
same_key (Children m) (Children n) = m == n

-- what is kept of a thing
abbrev pub touch_of : Touches → Key → Option Touch
touch_of all key = lookup (same_key key) all

-- whether a turn touched the thing
abbrev pub touches : Key → Turn → Bool
touches (Node n) t = same_node t.keys.node (Some n)
touches (Children n) t = same_node t.keys.list (Some n)

abbrev pub is_by : ℕ → Turn → Bool
is_by author t = t.author == author

-- the turns of the log that pass the test: none of them; or the greatest revision, which is of this author, and the greatest
-- revision by any other author
abbrev pub IsLatest : Option Touch → (Turn → Bool) → List Turn → Type 0
IsLatest None test log = latest test log ≡ None
IsLatest (Some touch) test log =
    (latest test log ≡ Some touch.revision)
    × (latest (λ t. is_by touch.author t && test t) log ≡ Some touch.revision)
    × (latest (λ t. not (is_by touch.author t) && test t) log ≡ touch.other)

-- what is kept is that of the log: the things that were touched, and of each the latest turn that touched it
abbrev pub StandFor : Touches → List Turn → Type 0
StandFor all log = (key : Key) → IsLatest (touch_of all key) (touches key) log

-- no revision that is kept is a later one
abbrev pub AreUpTo : Touches → ℕ → Type 0
AreUpTo all revision = (key : Key) → IfSome (touch_of all key) (λ touch. touch.revision ≤ revision)

-- the latest revision by another author than this one
abbrev pub by_others : ℕ → Option Touch → Option ℕ
by_others author None = None
by_others author (Some touch) = cond (touch.author == author) touch.other (Some touch.revision)

-- what is kept of a thing that is touched by a turn after all others
abbrev pub touched_now : Option Touch → ℕ → ℕ → Touch
touched_now touch author revision = record { revision = revision; author = author; other = by_others author touch }

-- one thing was touched, and what is kept of others stays
abbrev pub IsTouched : Touches → Touches → Key → ℕ → ℕ → Type 0
IsTouched old new key author revision =
    (other : Key) → touch_of new other ≡ cond (same_key key other) (Some (touched_now (touch_of old other) author revision)) (touch_of old other)

-- the latest revision by another author of what is kept of a thing, where there is one
abbrev pub latest_by_others : Touches → ℕ → Option Key → Option ℕ
latest_by_others all author None = None
latest_by_others all author (Some key) = by_others author (touch_of all key)
