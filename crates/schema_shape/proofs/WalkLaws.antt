-- One element further among siblings, and an element with those below it.
use Rattle.std.proofs.Common.{◌≡◌, ℕ, ◌<◌, ◌≤◌, arith, List, ◌++◌, refl, ◌∙◌, sym, ap}
use Rattle.tree_rows.specs.Forest.{Forest, count}
use Rattle.tree_rows.specs.Rows.{node}
use Rattle.tree_rows.specs.declared.name.Expanded.{Expanded}
use Rattle.tree_rows.specs.declared.row.Binding.{Binding}
use Rattle.tree_rows.specs.declared.row.Content.{Content}
use Rattle.tree_rows.specs.declared.row.Content.TheVariants as contents
use Rattle.tree_rows.specs.declared.row.Attribute.{Attribute}
use Rattle.tree_rows.specs.declared.row.Row.{Row}
use Rattle.schema_values.specs.GrammarNames.{tag_of}
use Rattle.schema_values.specs.Places.{kind_below}
use Rattle.schema_values.specs.declared.grammar_kinds.Kind.{Kind}
use Rattle.schema_faults.specs.Constructs.{Construct, constructs, nearest}
use Rattle.schema_shape.specs.declared.walk.Findings.{Findings}
use Rattle.schema_shape.specs.inside.Walks.{with_construct, with_constructs, element_constructs}
use Rattle.schema_shape.proofs.LeastLaws.{found_append, found_first}

constructs_at : (parent : Kind) (above : ℕ) (scope : List Binding) (row : Row) (name : Expanded) (children next left : Forest)
    → left ≡ node row.number row.content row.bindings row.attributes children next → row.content ≡ contents.Element name
    → constructs parent above scope left
    ≡ element_constructs (kind_below parent (tag_of name)) above scope row children ++ constructs parent above scope next
constructs_at parent above scope row name children next left e f = rw (e, f) refl

module _ (parent kind : Kind) (above : ℕ) (scope : List Binding) (left children next : Forest) (row : Row) (name : Expanded)
    (first : left ≡ node row.number row.content row.bindings row.attributes children next) (is : row.content ≡ contents.Element name)
    (below : kind ≡ kind_below parent (tag_of name)) where
  begins : constructs parent above scope left ≡ element_constructs kind above scope row children ++ constructs parent above scope next
  begins = rw below (constructs_at parent above scope row name children next left first is)

  pub entered : (scope' : List Binding) (found found' all : Findings) → with_constructs found (constructs parent above scope left) ≡ all
      → scope' ≡ scope → found' ≡ with_constructs found (element_constructs kind above scope row children)
      → with_constructs found' (constructs parent above scope' next) ≡ all
  entered scope' found found' all so_far same more =
      rw (same, more) (found_append found (element_constructs kind above scope row children) (constructs parent above scope next)
      ∙ ap (with_constructs found) (sym begins) ∙ so_far)

node-count : (number : ℕ) (content : Content) (bindings : List Binding) (attributes : List Attribute) (children next : Forest)
    → count next < count (node number content bindings attributes children next)
node-count number (contents.Element name) bindings attributes children next = omega arith
node-count number (contents.Chars chars) bindings attributes children next = omega arith

pub fewer_behind : (siblings left children next : Forest) (row : Row) → left ≡ node row.number row.content row.bindings row.attributes children next
    → count left ≤ count siblings → count next ≤ count siblings
fewer_behind siblings left children next row e few =
    let less : count next < count left = rw e (node-count row.number row.content row.bindings row.attributes children next) in omega arith

-- an element, and then what is below it
pub with_below : (kind : Kind) (above within : ℕ) (scope scope' bindings : List Binding) (row : Row) (attributes : List Attribute)
    (children children' : Forest) (found found' found'' : Findings)
    → bindings ≡ row.bindings → attributes ≡ row.attributes → children' ≡ children → scope' ≡ bindings ++ scope
    → found' ≡ with_construct found (record {
      item = row.number;
      kind = kind;
      above = above;
      bindings = bindings;
      scope = scope';
      attributes = attributes;
      children = children';
    })
    → within ≡ nearest above row.number bindings → found'' ≡ with_constructs found' (constructs kind within scope' children)
    → found'' ≡ with_constructs found (element_constructs kind above scope row children)
with_below kind above within scope scope' bindings row attributes children children' found found' found'' bs ats cs s e w b =
    let es = constructs kind (nearest above row.number row.bindings) (row.bindings ++ scope) children in
    let it : Construct = record {
      item = row.number;
      kind = kind;
      above = above;
      bindings = row.bindings;
      scope = row.bindings ++ scope;
      attributes = row.attributes;
      children = children;
    } in
    b ∙ rw (e, w, s, bs, ats, cs) (found_first found it es)
