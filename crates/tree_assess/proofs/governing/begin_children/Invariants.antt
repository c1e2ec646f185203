use Rattle.std.proofs.Common.{◌≡◌, ◌+◌, ◌++◌, drop, length}
use Rattle.tree_rows.specs.Forest.{count}
use Rattle.compiled_schema.specs.Usable.{set_of}
use Rattle.plain_tree.specs.Found.{HasNames}
use Rattle.assess_records.specs.Numbered.{heads}
use Rattle.tree_assess.specs.inside.Steps.{pairs_in}
use Rattle.tree_assess.proofs.Pairs.{pairs_of}
use Rattle.tree_assess.proofs.governing.begin_children.Given as goal

abbrev pub invariant-left : goal.invariant-left
invariant-left l = record {
  pairs : pairs_in l.entries.items ++ pairs_of (set_of l.initial.compiled) l.parent (drop (length (pairs_in l.entries.items)) l.terms) (heads l.initial.compiled.names l.scope l.left)
      ≡ pairs_of (set_of l.initial.compiled) l.parent l.terms (heads l.initial.compiled.names l.scope l.children);
  each : length (pairs_in l.entries.items) + length (heads l.initial.compiled.names l.scope l.left) ≡ length l.terms;
  has : HasNames l.initial.compiled.names l.left;
  same : l.compiled ≡ l.initial.compiled;
}

abbrev pub decreases-left : goal.decreases-left
decreases-left l = count l.left
