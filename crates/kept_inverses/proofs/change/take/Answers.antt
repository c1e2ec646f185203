use Rattle.std.proofs.Common.{inl, inr, refl}
use Rattle.kept_inverses.proofs.Following.{take-below}
use Rattle.kept_inverses.proofs.change.take.Goals as goal

pub put_back_of-requires : goal.put_back_of-requires
put_back_of-requires g c = let q = c.requires.can in (c.args.set.now.names, q.0, q.1, q.2)

pub prune-requires-clause-below : goal.prune-requires-clause-below
prune-requires-clause-below g c = let q = c.requires.can in take-below c.args.set.now.names c.args.doc.now q.0 q.1 c.args.node q.2

pub returns-clause-inverse : goal.returns-clause-inverse
returns-clause-inverse g c = λ d z fits. c.in_ok-back.ensures c.args.set.now.names d z fits

pub returns-clause-made : goal.returns-clause-made
returns-clause-made g c = λ d z. c.prune.ensures.tree c.args.set.now.names d z

pub returns-clause-reach : goal.returns-clause-reach
returns-clause-reach g c = inr (λ d z. c.prune.ensures.tree c.args.set.now.names d z, c.prune.ensures.steps)

pub returns-in_err-prune-clause-reach : goal.returns-in_err-prune-clause-reach
returns-in_err-prune-clause-reach g c = inr (λ d z. c.prune.ensures.tree c.args.set.now.names d z, c.prune.ensures.steps)

pub returns-in_err-back-clause-reach : goal.returns-in_err-back-clause-reach
returns-in_err-back-clause-reach g c = inl (refl, refl)
