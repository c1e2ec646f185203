-- Changes of one field of a part.
use Rattle.std.specs.Prelude.{ℕ, List, Some}
use Rattle.xs_components.specs.declared.element.ElementDecl.{ElementDecl}
use Rattle.xs_components.specs.declared.group.GroupDef.{GroupDef}

-- the element with this head
abbrev pub with_head : ℕ → ElementDecl → ElementDecl
with_head head part = record part { head = Some head }

-- the element with these identity constraints
abbrev pub with_constraints : List ℕ → ElementDecl → ElementDecl
with_constraints constraints part = record part { constraints = constraints }

-- the group with this particle
abbrev pub with_particle : ℕ → GroupDef → GroupDef
with_particle particle part = record part { particle = Some particle }
