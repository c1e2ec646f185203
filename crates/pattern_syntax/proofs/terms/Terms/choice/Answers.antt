use Rattle.std.proofs.Common.{length, map}
use Rattle.xs_positions.specs.Tree.{choice_of}
use Rattle.xs_positions.specs.Nodes.{tree_at}
use Rattle.pattern_syntax.specs.Terms.{classes_of}
use Rattle.pattern_syntax.proofs.TreeLaws.{knows-choice_of, regex_of-choice_of}
use Rattle.pattern_syntax.proofs.TermLaws.{either_way, on_ok, one_more, know_new, know_same}
use Rattle.pattern_syntax.proofs.terms.Terms.choice.Goals as goal

pub invariant_of-self : goal.invariant_of-self
invariant_of-self c = record {
  known =
      let n = length c.args.self.now.classes.items in
      let old = c.args.self.now.expr in
      let tree = choice_of (map (tree_at old) c.args.parts.now) in
      either_way c.choice.result _ _ _ c.choice.ensures.ok c.choice.ensures.err
      (know_new n old c.choice.new.self tree c.args.self.now.known (knows-choice_of n old c.args.parts.now c.args.self.now.known))
      (know_same n old c.choice.new.self c.args.self.now.known);
}

pub returns-clause-ok : goal.returns-clause-ok
returns-clause-ok c =
    let classes = classes_of c.args.self.now in
    let old = c.args.self.now.expr in
    let tree = choice_of (map (tree_at old) c.args.parts.now) in
    on_ok c.choice.result _ _
    (λ e. one_more classes old c.choice.new.self tree _ e (regex_of-choice_of classes old c.args.parts.now))
    c.choice.ensures.ok
