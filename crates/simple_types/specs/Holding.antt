-- Lists, and unions that hold one: Structures 3.14.6.
use Rattle.std.specs.Prelude.{Bool, true, false, ◌||◌, is_some}
use Rattle.simple_values.specs.Grammar.{item_type}
use Rattle.simple_types.specs.TypeTree.{TypeTree, not_simple, built_in, restriction, list_type, union_type, MemberTrees, no_member, member}

abbrev mutual
  -- a type is a list, or a union that holds a list (cos-list-of-atomic)
  pub holds_list : TypeTree → Bool
  holds_list not_simple = false
  holds_list (built_in kind) = is_some (item_type kind)
  holds_list (restriction base step) = holds_list base
  holds_list (list_type item) = true
  holds_list (union_type members) = some_holds_list members

  pub some_holds_list : MemberTrees → Bool
  some_holds_list no_member = false
  some_holds_list (member first rest) = holds_list first || some_holds_list rest
