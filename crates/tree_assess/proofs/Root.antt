-- The root of a document.
use Rattle.std.proofs.Common.{◌≡◌, ℕ, ◌<◌, List, [], length, ap, subst, ◌∙◌, arith}
use Rattle.std.proofs.lemmas.List.Elements.{All-nil, All-cons}
use Rattle.xs_names.specs.Names.{NameTable, IsSound}
use Rattle.xs_names.specs.Scope.{first_scope}
use Rattle.xs_names.proofs.GrownLaws.{two_spaces}
use Rattle.tree_rows.specs.Forest.{Forest, Document, none, element, count}
use Rattle.tree_rows.specs.Rows.{node}
use Rattle.tree_rows.specs.Whole.{HasRoot, IsTree}
use Rattle.tree_rows.specs.declared.name.Expanded.{Expanded}
use Rattle.tree_rows.specs.declared.row.Content.TheVariants as contents
use Rattle.tree_rows.specs.declared.row.Row.{Row}
use Rattle.elem_governing.specs.View.{AreKnown}
use Rattle.compiled_schema.specs.Usable.{IsUsable}
use Rattle.compiled_schema.specs.declared.compiled.Compiled.{Compiled}
use Rattle.plain_tree.specs.Found.{HasNames}
use Rattle.tree_assess.specs.inside.Steps.{CanAssess, alone}
use Rattle.tree_assess.proofs.Forests.{here, here_text}

pub not_empty : (d : Document) → IsTree d → d.forest ≡ none → ⊥
not_empty d tree e = subst HasRoot e tree.root

-- the prefix xml is bound outside of all elements
first_known : (t : NameTable) → IsSound t → AreKnown t first_scope
first_known t sound =
    let two = two_spaces t sound in
    All-cons (λ (b : List ℕ × ℕ). b.1 < length t.spaces) _ [] (omega arith) (All-nil (λ (b : List ℕ × ℕ). b.1 < length t.spaces))

module _ (d : Document) (tree : IsTree d) (children next : Forest) (row : Row) (first : d.forest ≡ node row.number row.content row.bindings row.attributes children next) where
  pub not_text : (chars : List ℕ) → row.content ≡ contents.Chars chars → ⊥
  not_text chars is = subst HasRoot (here_text d.forest children next row first chars is) tree.root

  module _ (name : Expanded) (is : row.content ≡ contents.Element name) where
    pub is_alone : d.forest ≡ alone name row children
    is_alone =
        let top = here d.forest children next row first name is in
        top ∙ ap (element row.number name row.bindings row.attributes children) (subst HasRoot top tree.root).1

    pub can_root : (c : Compiled) → IsUsable c → IsSound c.names → HasNames c.names d.forest → CanAssess c first_scope (alone name row children)
    can_root c usable sound has =
        let few = tree.few in
        let size : count d.forest ≡ count (alone name row children) = ap count is_alone in
        record { usable = usable; known = first_known c.names sound; has = subst (HasNames c.names) is_alone has; few = omega arith }
