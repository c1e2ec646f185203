-- What is kept of some children: the first of them, and the first that is an element.
use Rattle.std.specs.Prelude.{ℕ, Option, Some, None, Bool, true, false}
use Rattle.doc_nodes.specs.declared.firsts.First.{First}
use Rattle.doc_nodes.specs.declared.firsts.Child.{Child}

abbrev pub no_child : First
no_child = record { child = None; element = None }

abbrev pub number_if : Bool → ℕ → Option ℕ
number_if true n = Some n
number_if false n = None

abbrev pub firsts_of : Child → First
firsts_of c = record { child = Some c.number; element = number_if c.is_element c.number }

abbrev pub either : Option ℕ → Option ℕ → Option ℕ
either None later = later
either (Some n) later = Some n

-- the first of these, or of those where there is none
abbrev pub firsts_joined : First → First → First
firsts_joined these those = record { child = either these.child those.child; element = either these.element those.element }

-- what was found so far, or what these have
abbrev pub first_found : First → First → First
first_found these found = firsts_joined found these
