-- Which positions begin the words of a language, end them, follow each other, and lie in them.
use Rattle.std.specs.Prelude.{◌≡◌, ℕ, ◌+◌, ◌-◌, ◌<◌, ◌≤◌, ◌↔◌, ◌⊎◌, Bool, false, IsTrue, List, [], length, slice_index_or, All, Contains}
use Rattle.std.specs.List.Sorted.{IsStrictlyIncreasing}
use Rattle.xs_positions.specs.PositionWords.{Begins, Ends, Follows, Passes}
use Rattle.xs_positions.specs.declared.sets.Span.{Span}
use Rattle.xs_positions.specs.declared.sets.Linked.{Linked}

abbrev pub IsWithin : Span → ℕ → Type 0
IsWithin span p = (span.from ≤ p) × (p < span.to)

-- the sets of a row of positions: the first positions, the last ones, those after each, whether each is useful, and spans
-- of positions that come over and over
pub record Sets : Type 0 where
  pub first : List ℕ
  pub last : List ℕ
  pub follow : List (List ℕ)
  pub useful : List Bool
  pub loops : List Span

-- the set after a position, by its place in the row
abbrev pub row : List (List ℕ) → ℕ → List ℕ
row rows i = slice_index_or rows i []

-- in a span of the positions each one that ends a word is followed by each one that begins a word
abbrev pub IsLoop : (List ℕ → Type 0) → ℕ → ℕ → Span → Type 0
IsLoop Word base count span =
    (base ≤ span.from) × (span.to ≤ base + count) ×
    ((p q : ℕ) → IsWithin span p → IsWithin span q → Ends Word p → Begins Word q → Follows Word p q)

-- These are the sets of a language whose words go through so many positions from the base on. Those of first and of
-- last ones are rising lists.
pub record Describes (Word : List ℕ → Type 0) (base count : ℕ) (sets : Sets) : Type 0 where
  pub first : (p : ℕ) → Contains sets.first p ↔ Begins Word p
  pub last : (p : ℕ) → Contains sets.last p ↔ Ends Word p
  pub follow : (i p : ℕ) → i < count → Contains (row sets.follow i) p ↔ Follows Word (base + i) p
  pub useful : (i : ℕ) → i < count → IsTrue (slice_index_or sets.useful i false) ↔ Passes Word (base + i)
  pub within : (p : ℕ) → Passes Word p → (base ≤ p) × (p < base + count)
  pub follow_count : length sets.follow ≡ count
  pub useful_count : length sets.useful ≡ count
  pub first_rises : IsStrictlyIncreasing sets.first
  pub last_rises : IsStrictlyIncreasing sets.last
  pub loops : All (IsLoop Word base count) sets.loops

-- in each row of a position of `from` the numbers of `to` were added
pub record IsLinked (base : ℕ) (from to : List ℕ) (old new : List (List ℕ)) : Type 0 where
  pub count : length new ≡ length old
  pub members : (i p : ℕ) → i < length old → Contains (row new i) p ↔ (Contains (row old i) p ⊎ (Contains from (base + i) × Contains to p))

-- in a span each position of `from` is followed by each of `to`, by the rows of the positions from the base on
abbrev pub AreLinkedIn : ℕ → List ℕ → List ℕ → List (List ℕ) → Span → Type 0
AreLinkedIn base from to rows span =
    (p q : ℕ) → IsWithin span p → IsWithin span q → Contains from p → Contains to q → Contains (row rows (p - base)) q

-- a span of some, and the numbers of a list from one place to another, which it has
pub record IsSeen (loops : List Span) (numbers : List ℕ) (linked : Linked) : Type 0 where
  pub start : linked.start ≤ linked.end
  pub end : linked.end ≤ length numbers
  pub within : (k : ℕ) → linked.start ≤ k → k < linked.end → IsWithin linked.span (slice_index_or numbers k 0)
  pub span : (linked.span.to ≡ 0) ⊎ Contains loops linked.span

-- to one row the numbers of `to` were added, but for some that a span has with the position
pub record IsAdded (span : Span) (p : ℕ) (to old new : List ℕ) : Type 0 where
  pub from : (q : ℕ) → Contains new q → Contains old q ⊎ Contains to q
  pub kept : (q : ℕ) → Contains old q → Contains new q
  pub added : (q : ℕ) → Contains to q → Contains new q ⊎ (IsWithin span p × IsWithin span q)

-- each row was brought in order
pub record AreSorted (old new : List (List ℕ)) : Type 0 where
  pub count : length new ≡ length old
  pub members : (i p : ℕ) → i < length old → Contains (row new i) p ↔ Contains (row old i) p
  pub rises : (i : ℕ) → IsStrictlyIncreasing (row new i)
