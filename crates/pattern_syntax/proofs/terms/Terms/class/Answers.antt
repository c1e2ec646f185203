use Rattle.std.proofs.Common.{◌≡◌, ◌+◌, length, ◌∙◌, arith}
use Rattle.xs_positions.specs.Tree.{one}
use Rattle.pattern_syntax.proofs.TreeLaws.{all_know_more}
use Rattle.pattern_syntax.proofs.TermLaws.{either_way, on_ok, on_err, class_came, class_alone, longer, knows_last, know_new, know_same}
use Rattle.pattern_syntax.proofs.terms.Terms.class.Goals as goal

pub invariant_of-self-2 : goal.invariant_of-self-2
invariant_of-self-2 c = record {
  known =
      let items = c.args.self.now.classes.items in
      let n = length c.push.new.self.items in
      let old = c.args.self.now.expr in
      let l : n ≡ length items + 1 = longer items c.push.new.self.items c.args.class c.in_ok-push.ensures.items in
      let k = all_know_more (length items) n old (omega (arith, l)) c.args.self.now.known in
      let m : n ≡ c.len-number.result + 1 = (let a = c.len-number.ensures in let b = c.args.self.now.classes.ok.0 in omega (arith, a, b, l)) in
      either_way c.symbol.result _ _ _ c.symbol.ensures.ok c.symbol.ensures.err
      (know_new n old c.symbol.new.self (one c.len-number.result) k (knows_last n c.len-number.result m))
      (know_same n old c.symbol.new.self k);
}

pub returns-clause-ok : goal.returns-clause-ok
returns-clause-ok c =
    on_ok c.symbol.result _ _
    (λ e. class_came c.args.self.now.classes.items c.push.new.self.items c.args.class c.args.self.now.expr c.symbol.new.self c.len-number.result
    c.in_ok-push.ensures.items (c.len-number.ensures ∙ c.args.self.now.classes.ok.0) c.args.self.now.known e)
    c.symbol.ensures.ok

pub returns-clause-err : goal.returns-clause-err
returns-clause-err c =
    on_err c.symbol.result _ _
    (λ e. class_alone c.args.self.now.classes.items c.push.new.self.items c.args.class c.args.self.now.expr c.symbol.new.self
    c.in_ok-push.ensures.items c.args.self.now.known e)
    c.symbol.ensures.err
