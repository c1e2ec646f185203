use Rattle.std.proofs.Common.{subst}
use Rattle.model_lists.specs.declared.around.Reached.{Reached}
use Rattle.model_lists.specs.Around.{LeadIn}
use Rattle.model_lists.proofs.Entries.{counted}
use Rattle.model_lists.proofs.RowKeeping.{row-live, row-place}
use Rattle.model_lists.proofs.Leading.{lead-row, lead-below, rows-from}
use Rattle.model_lists.proofs.rows.row_from.Goals as goal

pub row-requires : goal.row-requires
row-requires g c =
    let q = c.requires in
    lead-row c.args.lists.now c.args.list q.0 q.1 q.2 c.args.state.reached q.3 q.4

pub from-after-requires-clause-live : goal.from-after-requires-clause-live
from-after-requires-clause-live g c =
    let q = c.requires in
    let l = row-live c.args.lists.now c.args.list q.0 q.2 q.4 in
    (l.0, l.1)

pub from-after-requires-clause-place : goal.from-after-requires-clause-place
from-after-requires-clause-place g c =
    let q = c.requires in
    row-place c.args.lists.now c.args.list q.0 q.2 q.4 c.args.place q.5

pub from-after-requires-clause-state : goal.from-after-requires-clause-state
from-after-requires-clause-state g c =
    let q = c.requires in
    lead-below c.args.lists.now c.args.list q.0 q.1 q.2 c.row.result (subst (λ (r : Reached). LeadIn q.0 q.1 r) c.row.ensures q.3) q.4

pub returns-clause-state : goal.returns-clause-state
returns-clause-state g c =
    λ a before symbols s h. rows-from c.args.lists.now c.args.list a before symbols c.row.result c.args.place c.from-after.result (subst (λ (r : Reached). LeadIn a before r) c.row.ensures s) h c.from-after.ensures.value

pub returns-clause-steps : goal.returns-clause-steps
returns-clause-steps g c =
    λ a symbols h.
    let l = row-live c.args.lists.now c.args.list a symbols h in
    counted c.args.steps.now c.from-after.new.steps 8 1 _ _ l.2 (c.from-after.ensures.steps l.0 l.1)
