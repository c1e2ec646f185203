-- What the nodes of a tree are.
use Rattle.std.specs.Prelude.{ℕ, ◌==◌, Option, Some, None, if◌then◌else◌}
use Rattle.tree_rows.specs.Forest.{Forest, none, text, element}
use Rattle.tree_rows.specs.declared.row.NodeKind.{NodeKind}
use Rattle.tree_rows.specs.declared.row.NodeKind.TheVariants.{Element, Chars}

abbrev pub first_kind : Option NodeKind → Option NodeKind → Option NodeKind
first_kind None later = later
first_kind (Some kind) later = Some kind

-- what the node of a number is
abbrev pub kind_of : ℕ → Forest → Option NodeKind
kind_of key none = None
kind_of key (text number chars next) = if number == key then Some Chars else kind_of key next
kind_of key (element number name bindings attributes children next) =
    if number == key then Some Element else first_kind (kind_of key children) (kind_of key next)
