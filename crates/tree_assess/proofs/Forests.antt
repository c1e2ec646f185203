-- The first of some siblings, and the next ones.
use Rattle.std.proofs.Common.{◌≡◌, ℕ, ◌+◌, ◌≤◌, List, ◌∷◌, length, ap, subst, ◌∙◌, arith}
use Rattle.std.proofs.lemmas.List.{length-map}
use Rattle.tree_rows.specs.Forest.{Forest, none, text, element, count}
use Rattle.tree_rows.specs.Rows.{node}
use Rattle.tree_rows.specs.declared.name.Expanded.{Expanded}
use Rattle.tree_rows.specs.declared.row.Content.TheVariants as contents
use Rattle.tree_rows.specs.declared.row.Row.{Row}
use Rattle.xs_names.specs.Names.{NameTable}
use Rattle.assess_records.specs.Numbered.{Scope, Head, head_of, heads, names_of}
use Rattle.compiled_schema.specs.declared.compiled.Compiled.{Compiled}
use Rattle.plain_tree.specs.Found.{HasNames, HasTag}
use Rattle.elem_governing.specs.Heads.{IsHead}
use Rattle.elem_governing.specs.declared.head.ElementHead.{ElementHead}
use Rattle.tree_assess.specs.inside.Steps.{CanAssess, alone}

-- how many elements there are
pub few_heads : (names : NameTable) (scope : Scope) (f : Forest) → length (heads names scope f) ≤ count f
few_heads names scope none = omega arith
few_heads names scope (text number chars next) = let n = few_heads names scope next in omega arith
few_heads names scope (element number name bindings attributes children next) = let n = few_heads names scope next in omega arith

pub few_names : (names : NameTable) (scope : Scope) (f : Forest) → length (names_of (heads names scope f)) ≤ count f
few_names names scope f = let n = few_heads names scope f in let m = length-map (heads names scope f) (λ (h : Head). h.name) in omega arith

module _ (left children next : Forest) (row : Row) (first : left ≡ node row.number row.content row.bindings row.attributes children next) where
  module _ (name : Expanded) (is : row.content ≡ contents.Element name) where
    pub here : left ≡ element row.number name row.bindings row.attributes children next
    here = first ∙ ap (λ c. node row.number c row.bindings row.attributes children next) is

    pub heads_here : (names : NameTable) (scope : Scope) → heads names scope left ≡ head_of names scope name row.bindings row.attributes ∷ heads names scope next
    heads_here names scope = ap (heads names scope) here

    pub counted_here : count left ≡ 1 + (count children + count next)
    counted_here = ap count here

    pub has_tag : (names : NameTable) → HasNames names left → HasTag names name row.bindings row.attributes
    has_tag names has = (subst (HasNames names) here has).0

    pub has_next : (names : NameTable) → HasNames names left → HasNames names next
    has_next names has = (subst (HasNames names) here has).2

    pub can_alone : (c : Compiled) (scope : Scope) → CanAssess c scope left → CanAssess c scope (alone name row children)
    can_alone c scope can =
        let has = subst (HasNames c.names) here can.has in
        let size = counted_here in
        let few = can.few in
        record { usable = can.usable; known = can.known; has = (has.0, has.1, tt); few = omega arith }

    pub can_next : (c : Compiled) (scope : Scope) → CanAssess c scope left → CanAssess c scope next
    can_next c scope can =
        let size = counted_here in
        let few = can.few in
        record { usable = can.usable; known = can.known; has = has_next c.names can.has; few = omega arith }

  module _ (chars : List ℕ) (is : row.content ≡ contents.Chars chars) where
    pub here_text : left ≡ text row.number chars next
    here_text = first ∙ ap (λ c. node row.number c row.bindings row.attributes children next) is

    pub heads_behind : (names : NameTable) (scope : Scope) → heads names scope left ≡ heads names scope next
    heads_behind names scope = ap (heads names scope) here_text

    pub counted_behind : count left ≡ 1 + count next
    counted_behind = ap count here_text

    pub has_behind : (names : NameTable) → HasNames names left → HasNames names next
    has_behind names has = subst (HasNames names) here_text has

    pub can_behind : (c : Compiled) (scope : Scope) → CanAssess c scope left → CanAssess c scope next
    can_behind c scope can =
        let size = counted_behind in
        let few = can.few in
        record { usable = can.usable; known = can.known; has = has_behind c.names can.has; few = omega arith }

-- the child elements of an element with this head
pub can_inner : (c : Compiled) (outer : Scope) (name : Expanded) (row : Row) (children : Forest) (h : ElementHead) → CanAssess c outer (alone name row children) → IsHead c.names outer name row.bindings row.attributes h
    → CanAssess c h.scope children
can_inner c outer name row children h can head =
    let few = can.few in
    record { usable = can.usable; known = head.known can.known; has = can.has.1; few = omega arith }
