-- What is assessed so far.
use Rattle.std.specs.Prelude.{◌≡◌, ℕ, ◌<◌, ◌^◌, List, [], ◌∷◌, ◌++◌, All, IfSome, Option, length, map, drop}
use Rattle.xs_components.specs.Tables.{Tables}
use Rattle.component_references.specs.Heights.{IsType}
use Rattle.tree_rows.specs.Forest.{Forest, none, element, count}
use Rattle.tree_rows.specs.declared.name.Expanded.{Expanded}
use Rattle.tree_rows.specs.declared.row.Row.{Row}
use Rattle.assess_records.specs.Counts.{counts_of, with_child}
use Rattle.assess_records.specs.declared.counts.ChildCounts.{ChildCounts}
use Rattle.assess_records.specs.declared.record.ElementRecord.{ElementRecord}
use Rattle.elem_governing.specs.Governing.{govern_root, govern_child}
use Rattle.elem_governing.specs.View.{AreKnown}
use Rattle.elem_governing.specs.declared.pairs.Governing.{Governing}
use Rattle.compiled_schema.specs.Usable.{IsUsable}
use Rattle.compiled_schema.specs.declared.compiled.Compiled.{Compiled}
use Rattle.plain_tree.specs.Found.{HasNames}
use Rattle.assess_records.specs.Numbered.{Scope, Head, head_of, heads, names_of, scope_in}
use Rattle.assessment.specs.Attribution.{SchemaSet, content_particle, AreTerms}
use Rattle.assessment.specs.Assessment.{Entry, Assessed, governed, entries, sibling_records, IsEntry, AreAssessed}
use Rattle.assessment.specs.Plain.{plain_beside}
use Rattle.tree_assess.specs.Entries.{placed_below, placed_of}
use Rattle.tree_assess.specs.declared.entry.ElementEntry.{ElementEntry}
use Rattle.tree_assess.specs.declared.entry.ChildOutcome.{ChildOutcome}

-- Siblings in this scope can be assessed: the set is usable, the namespaces of the scope and the names of the siblings are in its
-- table, and there are few of them.
pub record CanAssess (c : Compiled) (scope : Scope) (f : Forest) : Type 0 where
  pub usable : IsUsable c
  pub known : AreKnown c.names scope
  pub has : HasNames c.names f
  pub few : count f < 2 ^ 32

-- an element alone, by its row
abbrev pub alone : Expanded → Row → Forest → Forest
alone name row children = element row.number name row.bindings row.attributes children none

-- a type that governs is there
abbrev pub IsThere : Tables → Governing → Type 0
IsThere t g = IfSome g.of (IsType t)

-- what governs a root by its head
abbrev pub root_pair_of : SchemaSet → Head → Governing
root_pair_of s h = govern_root s.names s.parts h.name h.xsi h.scope

-- what governs a child by its term and its head
abbrev pub pair_of : SchemaSet → Governing → Option ℕ → Head → Governing
pair_of s parent term h = govern_child s.names s.parts parent.mode term h.name h.xsi h.scope

abbrev pub pairs_in : List ElementEntry → List Governing
pairs_in pairs = map (λ (p : ElementEntry). p.governing) pairs

-- where child elements get stuck, and what governs them
pub record AreInner (s : SchemaSet) (parent : Governing) (scope : Scope) (children : Forest) (stuck : Option ℕ) (pairs : List Governing) : Type 0 where
  pub terms : List (Option ℕ)
  pub attributed : AreTerms s (content_particle s.parts parent.of) (names_of (heads s.names scope children)) stuck terms
  pub pairs_are : pairs ≡ governed s parent terms (heads s.names scope children)
  pub each : length pairs ≡ length (heads s.names scope children)
  pub there : All (IsThere s.parts) pairs

-- the counts of child elements, those of more of them added one by one
abbrev pub counted_onto : List ElementRecord → ChildCounts → ChildCounts
counted_onto [] counts = counts
counted_onto (child ∷ more) counts = counted_onto more (with_child child.validity child.attempted counts)

module _ (s : SchemaSet) where
  -- Siblings with these pairs are assessed up to those that are left: each assessment of these gives one of all.
  pub record IsSoFar (parent : ℕ) (scope : Scope) (pairs : List Governing) (all left : Forest) (place : ℕ) (old new : List ElementEntry) (counts : ChildCounts) : Type 0 where
    pub whole : Assessed → Assessed
    pub assessed : (rest : Assessed) → AreAssessed s plain_beside scope (drop place pairs) left rest → AreAssessed s plain_beside scope pairs all (whole rest)
    pub placed_are : (rest : Assessed) → map placed_of old ++ placed_below parent (whole rest) ≡ map placed_of new ++ placed_below parent rest
    pub counts_are : (rest : Assessed) → counts_of (sibling_records (whole rest)) ≡ counted_onto (sibling_records rest) counts

  -- siblings are assessed, and their entries stand behind the old ones
  pub record AreDone (parent : ℕ) (scope : Scope) (pairs : List Governing) (f : Forest) (old new : List ElementEntry) (counts : ChildCounts) : Type 0 where
    pub found : Assessed
    pub assessed : AreAssessed s plain_beside scope pairs f found
    pub placed_are : map placed_of new ≡ map placed_of old ++ placed_below parent found
    pub counts_are : counts ≡ counts_of (sibling_records found)

  -- an element is assessed with what is below it, and their entries stand behind the old ones
  pub record IsDone (bearer : ℕ) (outer : Scope) (g : Governing) (name : Expanded) (row : Row) (children : Forest) (old new : List ElementEntry) (outcome : ChildOutcome) : Type 0 where
    pub own : Entry
    pub inner : List Governing
    pub below : Assessed
    pub entry_is : IsEntry s plain_beside g (head_of s.names outer name row.bindings row.attributes) row.number row.attributes children inner below own
    pub below_are : AreAssessed s plain_beside (scope_in s.names row.bindings outer) inner children below
    pub placed_are : map placed_of new ≡ map placed_of old ++ record { bearer = bearer; below = length (entries below); own = own } ∷ placed_below own.number below
    pub validity_is : outcome.validity ≡ own.element.validity
    pub attempted_is : outcome.attempted ≡ own.element.attempted
