-- What a simple type is made of: Structures 3.14.1, Datatypes 2.5.
use Rattle.std.specs.Prelude.{List, [], ◌∷◌}
use Rattle.xs_codes.specs.declared.builtin.Builtin.{Builtin}
use Rattle.xs_components.specs.declared.simple.FacetItem.{FacetItem}

mutual
  -- A built-in type; a restriction of a base by a step of facets; a list of items of a type; a union of members; or a type that
  -- is not simple.
  pub data TypeTree : Type 0 where
    not_simple : TypeTree
    built_in : (kind : Builtin) → TypeTree
    restriction : (base : TypeTree) (step : List FacetItem) → TypeTree
    list_type : (item : TypeTree) → TypeTree
    union_type : (members : MemberTrees) → TypeTree

  -- the members of a union, in order
  pub data MemberTrees : Type 0 where
    no_member : MemberTrees
    member : (first : TypeTree) (rest : MemberTrees) → MemberTrees

abbrev pub members_of : List TypeTree → MemberTrees
members_of [] = no_member
members_of (tree ∷ trees) = member tree (members_of trees)
