use Rattle.std.proofs.Common.{◌≡◌, drop, map}
use Rattle.tree_rows.specs.Naming.{same_name}
use Rattle.tag_names.specs.Faults.{repeats_name}
use Rattle.tag_names.specs.Keys.{name_of}
use Rattle.tag_names.proofs.DoubleLaws.{repeats_behind}
use Rattle.tag_names.proofs.doubles.many_repeat_name.Given as goal

abbrev pub invariant-loop-attribute : goal.invariant-loop-attribute
invariant-loop-attribute l = repeats_behind same_name (map name_of l.seen.keys) (map (λ a. a.name) (drop l.attribute-index l.attributes)) ≡ repeats_name l.attributes
