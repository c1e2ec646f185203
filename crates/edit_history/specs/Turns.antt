-- Who touched what when, by the turns of authors that edit one document.
use Rattle.std.specs.Prelude.{ℕ, Bool, false, cond, not, ◌&&◌, ◌||◌, ◌==◌, nat_lt, max, List, [], ◌∷◌, Option, None, Some}
use Rattle.edit_history.specs.declared.touched.Touched.{Touched}
-- an edit, undo or redo that was accepted: the revision that it made, its author, and what it touched
pub use Rattle.edit_history.specs.declared.turn.Turn.{Turn}

abbrev pub turn : ℕ → ℕ → Touched → Turn
turn revision author keys = record { revision = revision; author = author; keys = keys }

-- both are there and name one node
abbrev pub same_node : Option ℕ → Option ℕ → Bool
same_node None n = false
same_node (Some m) None = false
same_node (Some m) (Some n) = m == n

-- something that both touch: a node itself, or the list of a node's children
abbrev pub have_common : Touched → Touched → Bool
have_common a b = same_node a.node b.node || same_node a.list b.list

-- the later of two revisions, of those that are there
abbrev pub later : Option ℕ → Option ℕ → Option ℕ
later None n = n
later (Some m) None = Some m
later (Some m) (Some n) = Some (max m n)

-- the greatest revision of the turns that pass the test; none where none passes
abbrev pub latest : (Turn → Bool) → List Turn → Option ℕ
latest test [] = None
latest test (t ∷ ts) = cond (test t) (later (Some t.revision) (latest test ts)) (latest test ts)

-- whether a turn is by another author, touched one of the keys, and came after the revision `seen`
abbrev pub is_unseen : ℕ → ℕ → Touched → Turn → Bool
is_unseen author seen keys t = (not (t.author == author) && have_common t.keys keys) && nat_lt seen t.revision

-- the greatest revision after `seen` of a turn by another author that touched one of the keys
abbrev pub stale : List Turn → ℕ → ℕ → Touched → Option ℕ
stale log author seen keys = latest (is_unseen author seen keys) log
