use Rattle.std.proofs.Common.{drop, ap, ◌∙◌, arith}
use Rattle.std.proofs.lemmas.List.{take_all}
use Rattle.child_trees.specs.Lists.{acts_along}
use Rattle.child_trees.proofs.seqs.Seqs.from.Goals as goal

pub returns-clause-value : goal.returns-clause-value
returns-clause-value g c = λ xs e.
    let M = g.M.Summary in
    c.between.ensures.value xs e ∙ ap (λ ys. acts_along M.acts c.args.state (drop c.args.place ys)) (take_all 4294967295 xs (omega (arith, c.between.ensures.few xs e)))
