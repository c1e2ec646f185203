use Rattle.std.proofs.Common.{◌≡◌, sym, subst}
use Rattle.std.specs.Prelude.{OnOk}
use Rattle.tree_rows.specs.Forest.{Document}
use Rattle.identity_tables.specs.Ids.{id_codes}
use Rattle.assessment.specs.Bearings.{borne_values}
use Rattle.compiled_schema.specs.declared.compiled.Compiled.{Compiled}
use Rattle.kept_above.proofs.from_kept_judging.Keeping.{both-ok}
use Rattle.kept_above.specs.from_kept_records.Found.{IsOver, found_in}
use Rattle.kept_keys.specs.Keys.{IsWhole}
use Rattle.kept_keys.proofs.Again.{all-ok}
use Rattle.kept_keys.proofs.Counted.{targets-again}
use Rattle.kept_keys.proofs.Idents.{says-found}
use Rattle.kept_keys.proofs.scopes.settle_keys.Goals as goal

pub settle_ids-requires : goal.settle_ids-requires
settle_ids-requires c = subst (λ (set : Compiled). IsWhole set c.args.doc.now c.settle_scopes.new.kept) (sym c.settle_scopes.ensures.same) c.in_ok-settle_scopes.ensures.whole

pub returns-clause-says : goal.returns-clause-says
returns-clause-says c =
    let set = c.args.set.now in
    let ns = c.args.doc.now in
    let mid = c.settle_scopes.new.kept in
    let new = c.settle_ids.new.kept in
    let result = c.settle_ids.result in
    let before = c.in_ok-settle_scopes.ensures in
    let after = c.settle_ids.ensures in
    both-ok result (λ says. says)
    (all-ok result (says-found set ns mid new before.whole before.coded) (subst (λ (s : Compiled). OnOk result (IsWhole s ns new)) c.settle_scopes.ensures.same after.whole) after.elements after.identity)
    (subst (λ (s : Compiled). OnOk result ((d : Document) → IsOver s ns new.records.slots d → new.root_ids ≡ id_codes (borne_values (found_in ns new.records.slots d.forest)))) c.settle_scopes.ensures.same after.ids)

-- what is counted stays right, since the codes of IDs alone are written after it
pub returns-clause-targets : goal.returns-clause-targets
returns-clause-targets c =
    let set = c.args.set.now in
    let ns = c.args.doc.now in
    let mid = c.settle_scopes.new.kept in
    let new = c.settle_ids.new.kept in
    let result = c.settle_ids.result in
    let before = c.in_ok-settle_scopes.ensures in
    let after = c.settle_ids.ensures in
    both-ok result (λ whole elements some. targets-again set ns mid new before.whole whole elements c.settle_scopes.new.keys (before.targets some))
    (subst (λ (s : Compiled). OnOk result (IsWhole s ns new)) c.settle_scopes.ensures.same after.whole) after.elements
