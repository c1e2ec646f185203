use Rattle.std.proofs.Common.{List, ℕ, sym, ap, ◌∙◌}
use Rattle.identity_constraints.specs.Targets.{constraints_of}
use Rattle.path_walk.specs.Sight.{seen}
use Rattle.forest_keys.specs.inside.Found.{targets_at, targets_for, targets_first}
use Rattle.forest_keys.proofs.KeyrefLaws.{shorter, nothing-left}
use Rattle.forest_keys.proofs.Siblings.{first_is, not_none}
use Rattle.forest_keys.proofs.Growing.{begun, one-on, all-in, reached-alike}
use Rattle.forest_keys.proofs.putting.put_element.Goals as goal

pub returns-in_default : goal.returns-in_default
returns-in_default g c = record {
  can = c.requires.linked;
  grown = λ own below next is. absurd (not_none (g.T.KeySiblings.forest c.args.at) own below next is c.in_default.ensures);
}

pub constraints-init : goal.constraints-init
constraints-init g c = record {
  can = c.requires.linked;
  reached = λ own below next is.
      let set = c.args.by.now.set in
      let tree = c.args.by.now.tree in
      let all = targets_at set.names.now set.parts.now set.identities.now c.args.place own below in
      let same = first_is (g.T.KeySiblings.forest c.args.at) own (seen c.in-Some.own) below next is c.in-Some.ensures in
      reached-alike tree all all _ c.args.records.now c.args.records.now
      (ap (λ (ks : List ℕ). targets_for set.names.now set.parts.now set.identities.now c.args.place ks own below) (sym (c.constraints_of-left.ensures ∙ ap (constraints_of set.parts.now) (sym same)))) (begun tree all c.args.records.now);
}

pub put_first-requires-clause-linked : goal.put_first-requires-clause-linked
put_first-requires-clause-linked g c = c.constraints.invariant.can

pub constraints-preserved : goal.constraints-preserved
constraints-preserved g c = record {
  can = c.in_ok-put_first.ensures.can;
  reached = λ own below next is.
      let set = c.args.by.now.set in
      let tree = c.args.by.now.tree in
      let one = c.in-Some-split_first in
      let all = targets_at set.names.now set.parts.now set.identities.now c.args.place own below in
      one-on tree all (targets_first set.names.now set.parts.now set.identities.now c.args.place one.constraint.now one.rest.now own below)
      (targets_for set.names.now set.parts.now set.identities.now c.args.place one.rest.now own below) c.args.records.now c.constraints.records c.put_first.new.records
      (reached-alike tree all _ _ c.args.records.now c.constraints.records (ap (λ (ks : List ℕ). targets_for set.names.now set.parts.now set.identities.now c.args.place ks own below) one.ensures.cases.0) (c.constraints.invariant.reached own below next is))
      (c.in_ok-put_first.ensures.grown own below next is);
}

pub constraints-smaller : goal.constraints-smaller
constraints-smaller g c = shorter c.constraints.left.now c.in-Some-split_first.rest.now c.in-Some-split_first.constraint.now c.in-Some-split_first.ensures.cases.0

pub returns : goal.returns
returns g c = record {
  can = c.constraints.invariant.can;
  grown = λ own below next is.
      let set = c.args.by.now.set in
      let tree = c.args.by.now.tree in
      let all = targets_at set.names.now set.parts.now set.identities.now c.args.place own below in
      all-in tree all c.args.records.now c.constraints.records
      (reached-alike tree all _ _ c.args.records.now c.constraints.records
      (ap (λ (ks : List ℕ). targets_for set.names.now set.parts.now set.identities.now c.args.place ks own below) (nothing-left c.constraints.left.now c.in_default-split_first.ensures.cases)) (c.constraints.invariant.reached own below next is));
}
