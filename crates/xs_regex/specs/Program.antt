-- The positions of a term and the classes that they take.
use Rattle.std.specs.Prelude.{◌≡◌, ℕ, ◌<◌, ◌↔◌, Bool, true, false, IsTrue, List, length, slice_index, Contains}
use Rattle.xs_positions.specs.Nodes.{tree_at}
use Rattle.xs_positions.specs.Positions.{Table, ArePositionsOf}
use Rattle.xs_positions.specs.Sets.{row}
use Rattle.pattern_syntax.specs.Classes.{Class, has}
use Rattle.pattern_syntax.specs.Trees.{class_at}
use Rattle.pattern_syntax.specs.Terms.{classes_of, trees_of}
use Rattle.xs_regex.specs.Sets.{Has}
use Rattle.xs_regex.specs.Expression.{Expression}
use Rattle.xs_regex.specs.declared.program.Program.{Program}

abbrev pub expression_of : Program → Expression
expression_of program = record { classes = classes_of program.terms; tree = tree_at (trees_of program.terms) program.root }

-- the class of the position's symbol has the character
abbrev pub takes_by : List Class → Table → ℕ → ℕ → Bool
takes_by classes table p c = has (class_at classes (slice_index table.symbols p)) c

abbrev pub takes : Program → ℕ → ℕ → Bool
takes program p c = takes_by (classes_of program.terms) program.positions p c

-- The positions that wait for a character: before the first one those that begin a word, and then those that follow a live
-- position, which is one that took the character before.
abbrev pub Waits : Table → List Bool → Bool → ℕ → Type 0
Waits table live false q = Contains table.first q
Waits table live true q = (p : ℕ) × Has live p × Contains (row table.follow p) q

-- what was read is a word's text: nothing, where the empty word is one, or a live position ends a word
abbrev pub IsRead : Table → List Bool → Bool → Type 0
IsRead table live false = IsTrue table.nullable
IsRead table live true = (p : ℕ) × Has live p × Contains table.last p

-- the positions that follow one and take the character are all in the set
abbrev pub ArePut : Program → List Bool → ℕ → ℕ → Type 0
ArePut program set c p =
    (p < length program.positions.symbols) × ((q : ℕ) → Contains (row program.positions.follow p) q → IsTrue (takes program q c) → Has set q)

-- the positions are those of the term, and the marks are those of the positions that end a word
pub record IsProgram (program : Program) : Type 0 where
  pub positions : ArePositionsOf (expression_of program).tree program.positions
  pub ends : (p : ℕ) → Has program.ends.items p ↔ Contains program.positions.last p
  pub ends_count : length program.ends.items ≡ length program.positions.symbols
