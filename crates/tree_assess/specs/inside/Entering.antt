-- An element before its child elements are assessed.
use Rattle.std.specs.Prelude.{◌≡◌, ℕ, ◌+◌, List, [], length, slice_set}
use Rattle.tree_rows.specs.Forest.{Forest}
use Rattle.tree_rows.specs.declared.name.Expanded.{Expanded}
use Rattle.tree_rows.specs.declared.row.Row.{Row}
use Rattle.assess_records.specs.declared.counts.ChildCounts.{ChildCounts}
use Rattle.assess_records.specs.declared.shape.ElementShape.{ElementShape}
use Rattle.elem_governing.specs.declared.pairs.Governing.{Governing}
use Rattle.compiled_schema.specs.Usable.{set_of}
use Rattle.compiled_schema.specs.declared.compiled.Compiled.{Compiled}
use Rattle.assess_records.specs.Numbered.{Scope, characters}
use Rattle.assessment.specs.Attribution.{SchemaSet}
use Rattle.assessment.specs.Assessment.{AreJudged}
use Rattle.elem_governing.specs.Heads.{IsHead}
use Rattle.tree_assess.specs.Entries.{entry_of}
use Rattle.tree_assess.specs.declared.entry.ChildOutcome.{ChildOutcome}
use Rattle.tree_assess.specs.declared.entry.ElementEntry.{ElementEntry}
use Rattle.tree_assess.specs.inside.Steps.{CanAssess, AreInner, pairs_in}
use Rattle.tree_assess.specs.declared.elements.Entered.{Entered}

-- what is known of an element: its head, its characters, and where its child elements get stuck and what governs them
pub record IsEntered (c : Compiled) (bearer : ℕ) (outer : Scope) (g : Governing) (name : Expanded) (row : Row) (children : Forest) (e : Entered) : Type 0 where
  pub number_is : e.number ≡ row.number
  pub bearer_is : e.bearer ≡ bearer
  pub head_is : IsHead c.names outer name row.bindings row.attributes e.head
  pub text_is : e.text ≡ characters children
  pub inner_are : AreInner (set_of c) g e.head.scope children e.inner.stuck (pairs_in e.inner.begun.items)
  pub can : CanAssess c e.head.scope children

-- what the element has to show with its child elements
abbrev pub shape_from : Entered → ChildCounts → ElementShape
shape_from e counts = record {
  name = e.head.name;
  attrs = e.head.attrs;
  text = e.text;
  scope = e.head.scope;
  stuck = e.inner.stuck;
  identity = [];
  ids = [];
  counts = counts;
}

-- the element of a number is judged by its shape, and its entry stands at the place that was kept for it
pub record IsFinished (s : SchemaSet) (g : Governing) (number bearer : ℕ) (shape : ElementShape) (place : ℕ) (old new : List ElementEntry) (outcome : ChildOutcome) : Type 0 where
  pub own : ElementEntry
  pub judged : AreJudged s shape (entry_of own)
  pub number_is : own.number ≡ number
  pub bearer_is : own.bearer ≡ bearer
  pub governing_is : own.governing ≡ g
  pub placed : new ≡ slice_set old place own
  pub below_is : own.below + place + 1 ≡ length old
  pub validity_is : outcome.validity ≡ own.element.validity
  pub attempted_is : outcome.attempted ≡ own.element.attempted
