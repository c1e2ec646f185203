use Rattle.std.proofs.Common.{◌∙◌, ◌∷◌, ap}
use Rattle.tag_names.proofs.TableLaws.{bound-more}
use Rattle.tag_names.proofs.prefixes.Prefixes.bind_copies.Goals as goal

pub left-preserved : goal.left-preserved
left-preserved c = (
  bound-more c.left.left.now c.in-Some.before.now c.in-Some.last.now c.in_ok-copy.copy c.left.self c.bind.new.self _ c.in-Some.ensures.cases.0 c.in_ok-copy.ensures c.in_ok-bind.ensures.ok c.left.invariant.0,
  c.in_ok-copy.copy ∷ c.left.invariant.1,
  c.in_ok-bind.ensures.ok ∙ ap (λ l. c.in_ok-copy.copy ∷ l) c.left.invariant.2,
)
