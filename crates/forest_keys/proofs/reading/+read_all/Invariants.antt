use Rattle.std.proofs.Common.{◌≡◌, ◌+◌, ◌≤◌, ◌++◌, length}
use Rattle.path_walk.specs.inside.Walk.{size}
use Rattle.forest_keys.specs.Codes.{all_codes}
use Rattle.forest_keys.specs.inside.Records.{AreFilled}
use Rattle.forest_keys.proofs.reading.+read_all.Given as goal

abbrev pub decreases-read_all : goal.decreases-read_all
decreases-read_all g l = size (g.T.KeySiblings.forest l.siblings)

abbrev pub invariant-left : goal.invariant-left
invariant-left g l = record {
  fewer : size (g.T.KeySiblings.forest l.left) ≤ size (g.T.KeySiblings.forest l.fn.siblings);
  many : length l.codes.items + size (g.T.KeySiblings.forest l.left) ≡ length l.initial.codes.items + size (g.T.KeySiblings.forest l.fn.siblings);
  filled : AreFilled l.by.set.names.now l.by.set.parts.now l.by.set.identities.now l.by.tree l.records (length l.initial.codes.items) (g.T.KeySiblings.forest l.fn.siblings)
      → AreFilled l.by.set.names.now l.by.set.parts.now l.by.set.identities.now l.by.tree l.records (length l.codes.items) (g.T.KeySiblings.forest l.left);
  so_far : AreFilled l.by.set.names.now l.by.set.parts.now l.by.set.identities.now l.by.tree l.records (length l.initial.codes.items) (g.T.KeySiblings.forest l.fn.siblings)
      → l.codes.items ++ all_codes l.by.set.names.now l.by.set.parts.now l.by.set.identities.now (g.T.KeySiblings.forest l.left)
      ≡ l.initial.codes.items ++ all_codes l.by.set.names.now l.by.set.parts.now l.by.set.identities.now (g.T.KeySiblings.forest l.fn.siblings);
}

abbrev pub decreases-left : goal.decreases-left
decreases-left g l = size (g.T.KeySiblings.forest l.left)
