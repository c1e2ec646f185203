-- The head of an element, by the numbers of its names.
use Rattle.std.specs.Prelude.{◌≡◌, ℕ, ◌<◌, List, All, length}
use Rattle.xs_names.specs.Names.{NameTable}
use Rattle.tree_rows.specs.declared.name.Expanded.{Expanded}
use Rattle.tree_rows.specs.declared.row.Attribute.{Attribute}
use Rattle.tree_rows.specs.declared.row.Binding.{Binding}
use Rattle.assess_records.specs.Instance.{instance_text}
use Rattle.assess_records.specs.declared.instance_names.InstanceAttribute.TheVariants.{TypeName}
use Rattle.elem_governing.specs.View.{AreKnown}
use Rattle.assess_records.specs.Numbered.{Scope, Head, head_of, named_texts}
use Rattle.elem_governing.specs.declared.head.ElementHead.{ElementHead}

-- what governs an element goes by
abbrev pub head_by : NameTable → ElementHead → Head
head_by names h = record { name = h.name; xsi = instance_text names h.attrs TypeName; scope = h.scope }

-- A start tag, below an element with this scope, has this head. The names of its attributes are numbers of the table, and the
-- namespaces of its scope are, where those of the outer scope are.
pub record IsHead (names : NameTable) (outer : Scope) (name : Expanded) (bindings : List Binding) (attributes : List Attribute) (h : ElementHead) : Type 0 where
  pub head_is : head_by names h ≡ head_of names outer name bindings attributes
  pub attrs_are : h.attrs ≡ named_texts names attributes
  pub named : All (λ a. a.name < length names.names) h.attrs
  pub known : AreKnown names outer → AreKnown names h.scope
