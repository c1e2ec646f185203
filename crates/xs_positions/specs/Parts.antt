-- The sets that a `Part` holds, and what its calls make of them.
use Rattle.std.specs.Prelude.{◌≡◌, ℕ, ◌+◌, Bool, true, false, List, [], ◌∷◌, ◌++◌, map, length, replicate, if◌then◌else◌, ⊤}
use Rattle.xs_positions.specs.Tree.{Tree, size}
use Rattle.xs_positions.specs.PositionWords.{IsWord}
use Rattle.xs_positions.specs.Measures.{has_empty}
use Rattle.xs_positions.specs.Sets.{Sets, IsLinked, Describes}
use Rattle.xs_positions.specs.declared.sets.Part.{Part}
use Rattle.xs_positions.specs.declared.sets.Span.{Span}

abbrev pub sets_of : Part → Sets
sets_of part = record { first = part.first.items; last = part.last.items; follow = map (λ row. row.items) part.follow.items; useful = part.useful.items; loops = part.loops.items }

-- the sets of the one word of one position
abbrev pub one_position : ℕ → Sets
one_position p = record { first = p ∷ []; last = p ∷ []; follow = [] ∷ []; useful = true ∷ []; loops = [] }

-- the sets of so many positions that no word goes through
abbrev pub unused : ℕ → Sets
unused count = record { first = []; last = []; follow = replicate count []; useful = replicate count false; loops = [] }

-- the sets of the words of the one or of the other
abbrev pub beside : Sets → Sets → Sets
beside a b = record { first = a.first ++ b.first; last = a.last ++ b.last; follow = a.follow ++ b.follow; useful = a.useful ++ b.useful; loops = a.loops ++ b.loops }

-- the sets of the words of the one, each with a word of the other behind it
pub record IsJoined (base : ℕ) (a : Sets) (a_empty : Bool) (b : Sets) (b_empty : Bool) (sets : Sets) : Type 0 where
  pub first : sets.first ≡ (if a_empty then a.first ++ b.first else a.first)
  pub last : sets.last ≡ (if b_empty then a.last ++ b.last else b.last)
  pub rows : List (List ℕ)
  pub linked : IsLinked base a.last b.first a.follow rows
  pub follow : sets.follow ≡ rows ++ b.follow
  pub useful : sets.useful ≡ a.useful ++ b.useful
  pub loops : sets.loops ≡ a.loops ++ b.loops

-- so many positions from the base on
abbrev pub span_of : ℕ → ℕ → Span
span_of base count = record { from = base; to = base + count }

-- the sets of words in a row: each last position is followed by each first one
pub record IsLooped (base : ℕ) (a sets : Sets) : Type 0 where
  pub first : sets.first ≡ a.first
  pub last : sets.last ≡ a.last
  pub linked : IsLinked base a.last a.first a.follow sets.follow
  pub useful : sets.useful ≡ a.useful
  pub loops : sets.loops ≡ span_of base (length a.follow) ∷ []

-- the part has the sets of an expression whose positions begin at the base, and knows whether the empty word is one
pub record IsPartOf (tree : Tree) (base : ℕ) (part : Part) : Type 0 where
  pub sets : Describes (IsWord tree base) base (size tree) (sets_of part)
  pub nullable : part.nullable ≡ has_empty tree

-- these are the parts of these expressions, whose positions lie one after the other from the base on
abbrev pub AreParts : ℕ → List Tree → List Part → Type 0
AreParts base [] [] = ⊤
AreParts base [] (part ∷ parts) = ⊥
AreParts base (tree ∷ trees) [] = ⊥
AreParts base (tree ∷ trees) (part ∷ parts) = IsPartOf tree base part × AreParts (base + size tree) trees parts
