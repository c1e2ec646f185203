use Rattle.std.proofs.Common.{subst}
use Rattle.model_lists.specs.declared.around.Reached.{Reached}
use Rattle.model_lists.specs.Around.{LeadIn}
use Rattle.model_lists.proofs.Entries.{counted}
use Rattle.model_lists.proofs.MemberKeeping.{member-live, member-place}
use Rattle.model_lists.proofs.Leading.{lead-seen, members-from}
use Rattle.model_lists.proofs.members.member_from.Goals as goal

pub seen-requires : goal.seen-requires
seen-requires g c =
    let q = c.requires in
    lead-seen c.args.lists.now c.args.list q.0 q.1 q.2 c.args.state.reached q.3 q.4

pub from-after-requires-clause-live : goal.from-after-requires-clause-live
from-after-requires-clause-live g c =
    let q = c.requires in
    let l = member-live c.args.lists.now c.args.list q.0 q.2 q.4 in
    (l.0, l.1)

pub from-after-requires-clause-place : goal.from-after-requires-clause-place
from-after-requires-clause-place g c =
    let q = c.requires in
    member-place c.args.lists.now c.args.list q.0 q.2 q.4 c.args.place q.5

pub returns-clause-state : goal.returns-clause-state
returns-clause-state g c =
    λ a before symbols s h. members-from c.args.lists.now c.args.list a before symbols c.seen.result c.from-after.result c.args.place (subst (λ (r : Reached). LeadIn a before r) c.seen.ensures s) h c.from-after.ensures.value

pub returns-clause-steps : goal.returns-clause-steps
returns-clause-steps g c =
    λ a symbols h.
    let l = member-live c.args.lists.now c.args.list a symbols h in
    counted c.args.steps.now c.from-after.new.steps 8 1 _ _ l.2 (c.from-after.ensures.steps l.0 l.1)
