use Rattle.std.proofs.Common.{◌≡◌, ◌+◌, ◌*◌, ◌<◌, ◌≤◌, ◌^◌, length}
use Rattle.tree_rows.specs.Forest.{count}
use Rattle.assess_records.specs.Counts.{child_count, attempt_count}
use Rattle.compiled_schema.specs.Usable.{set_of}
use Rattle.assess_records.specs.Numbered.{heads}
use Rattle.tree_assess.specs.inside.Steps.{CanAssess, IsSoFar, pairs_in}
use Rattle.tree_assess.proofs.assessing.+assess.Given as goal

abbrev pub decreases-assess_children : goal.decreases-assess_children
decreases-assess_children l = 2 * count l.children

abbrev pub decreases-assess_element : goal.decreases-assess_element
decreases-assess_element l = 2 * count l.children + 1

abbrev pub invariant-assess_children-left : goal.invariant-assess_children-left
invariant-assess_children-left l = record {
  so_far : IsSoFar (set_of l.initial.compiled) l.parent.number l.scope (pairs_in l.entries) l.fn.children l.left l.place l.initial.found.items l.found.items l.counts;
  can : CanAssess l.initial.compiled l.scope l.left;
  each : l.place + length (heads l.initial.compiled.names l.scope l.left) ≡ length (pairs_in l.entries);
  counted : child_count l.counts + count l.left < 2 ^ 32;
  attempts : attempt_count l.counts + count l.left < 2 ^ 32;
  fewer : count l.left ≤ count l.fn.children;
  same : l.compiled ≡ l.initial.compiled;
}

abbrev pub decreases-assess_children-left : goal.decreases-assess_children-left
decreases-assess_children-left l = count l.left
