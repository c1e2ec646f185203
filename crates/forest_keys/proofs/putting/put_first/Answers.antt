use Rattle.std.proofs.Common.{Bool, List, map, sym, ap, ◌∙◌, if◌then◌else◌}
use Rattle.identity_constraints.specs.Targets.{Outcome, outcomes}
use Rattle.path_walk.specs.Outcomes.{outcome_of}
use Rattle.key_records.specs.Counted.{no_targets}
use Rattle.forest_keys.specs.inside.Found.{targets_first, targets_of}
use Rattle.forest_keys.proofs.Growing.{grown-none, grown-alike}
use Rattle.forest_keys.proofs.putting.put_first.Goals as goal

pub returns-then-is_among : goal.returns-then-is_among
returns-then-is_among g c = record {
  can = c.requires.linked;
  grown = λ own below next is.
      let set = c.args.by.now.set in
      let k = c.args.constraints.0 in
      grown-alike c.args.by.now.tree no_targets (targets_first set.names.now set.parts.now set.identities.now c.args.place k c.args.constraints.1.now own below) c.args.records.now c.args.records.now
      (sym (ap (λ (b : Bool). if b then no_targets else targets_of c.args.place k (outcomes set.names.now set.parts.now set.identities.now k own below)) (sym c.is_among.ensures ∙ c.if-is_among.true))) (grown-none c.args.by.now.tree c.args.records.now);
}

pub returns : goal.returns
returns g c = record {
  can = c.in_ok-put_outcomes.ensures.can;
  grown = λ own below next is.
      let set = c.args.by.now.set in
      let k = c.args.constraints.0 in
      grown-alike c.args.by.now.tree _ (targets_first set.names.now set.parts.now set.identities.now c.args.place k c.args.constraints.1.now own below) c.args.records.now c.put_outcomes.new.records
      ((λ i. targets_of c.args.place (c.number.ensures i) (map outcome_of (c.as_slice.ensures.value i)))
      ∙ ap (λ (os : List Outcome). targets_of c.args.place k os) (c.in_ok-found.ensures own below next is)
      ∙ sym (ap (λ (b : Bool). if b then no_targets else targets_of c.args.place k (outcomes set.names.now set.parts.now set.identities.now k own below)) (sym c.is_among.ensures ∙ c.if-is_among.false)))
      c.in_ok-put_outcomes.ensures.grown;
}
