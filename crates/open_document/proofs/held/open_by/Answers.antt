use Rattle.std.proofs.Common.{ap}
use Rattle.session_model.specs.State.{State}
use Rattle.open_document.specs.Held.{basis_of, work_of}
use Rattle.open_document.proofs.Accepted.{opened_open, opened_by, opened_spaced}
use Rattle.open_document.proofs.held.open_by.Goals as goal

pub returns-in-Ok-clause-opened : goal.returns-in-Ok-clause-opened
returns-in-Ok-clause-opened g c =
    opened_by c.work_in.result c.args.most (basis_of c.args.basis) c.args.tree (work_of c.work_in.new.held) c.in-Ok.session c.in-Ok.ensures.opened c.work_in.ensures.working

pub returns-in-Ok-clause-open : goal.returns-in-Ok-clause-open
returns-in-Ok-clause-open g c =
    opened_open c.work_in.result c.args.most (basis_of c.args.basis) c.args.tree (work_of c.work_in.new.held)
    (opened_by c.work_in.result c.args.most (basis_of c.args.basis) c.args.tree (work_of c.work_in.new.held) c.in-Ok.session c.in-Ok.ensures.opened c.work_in.ensures.working)

pub work_in-requires-clause-spaced : goal.work_in-requires-clause-spaced
work_in-requires-clause-spaced g c = opened_spaced (basis_of c.args.basis).set c.args.tree c.in-Ok.session c.in-Ok.ensures.opened c.requires.ready.spaced

pub work_in-requires-clause-first : goal.work_in-requires-clause-first
work_in-requires-clause-first g c = ap (λ (s : State). s.revision) c.in-Ok.ensures.opened.new_is
