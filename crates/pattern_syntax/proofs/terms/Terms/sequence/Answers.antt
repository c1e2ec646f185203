use Rattle.std.proofs.Common.{length, map}
use Rattle.xs_positions.specs.Tree.{sequence_of}
use Rattle.xs_positions.specs.Nodes.{tree_at}
use Rattle.pattern_syntax.specs.Terms.{classes_of}
use Rattle.pattern_syntax.proofs.TreeLaws.{knows-sequence_of, regex_of-sequence_of}
use Rattle.pattern_syntax.proofs.TermLaws.{either_way, on_ok, one_more, know_new, know_same}
use Rattle.pattern_syntax.proofs.terms.Terms.sequence.Goals as goal

pub invariant_of-self : goal.invariant_of-self
invariant_of-self c = record {
  known =
      let n = length c.args.self.now.classes.items in
      let old = c.args.self.now.expr in
      let tree = sequence_of (map (tree_at old) c.args.parts.now) in
      either_way c.sequence.result _ _ _ c.sequence.ensures.ok c.sequence.ensures.err
      (know_new n old c.sequence.new.self tree c.args.self.now.known (knows-sequence_of n old c.args.parts.now c.args.self.now.known))
      (know_same n old c.sequence.new.self c.args.self.now.known);
}

pub returns-clause-ok : goal.returns-clause-ok
returns-clause-ok c =
    let classes = classes_of c.args.self.now in
    let old = c.args.self.now.expr in
    let tree = sequence_of (map (tree_at old) c.args.parts.now) in
    on_ok c.sequence.result _ _
    (λ e. one_more classes old c.sequence.new.self tree _ e (regex_of-sequence_of classes old c.args.parts.now))
    c.sequence.ensures.ok
