use Rattle.path_walk.specs.Sight.{seen}
use Rattle.forest_keys.proofs.KeyrefLaws.{nothing-left, shorter}
use Rattle.forest_keys.proofs.Codes.{codes-begun, codes-next, codes-end}
use Rattle.forest_keys.proofs.reading.element_codes.Goals as goal

pub constraints-init : goal.constraints-init
constraints-init c = λ below filled.
    let set = c.args.by.now.set in
    codes-begun set.names.now set.parts.now set.identities.now (seen c.args.own.now) below c.constraints_of-left.result.now c.new-codes.result c.constraints_of-left.ensures c.new-codes.ensures

pub constraints-preserved : goal.constraints-preserved
constraints-preserved c = λ below filled.
    let set = c.args.by.now.set in
    let one = c.in-Some in
    codes-next set.names.now set.parts.now set.identities.now (seen c.args.own.now) below _ c.constraints.codes c.push_code.new.codes one.constraint.now c.constraints.left.now one.rest.now c.in_ok-code.code
    (c.constraints.invariant below filled) one.ensures.cases.0 (c.in_ok-code.ensures (seen c.args.own.now) below filled) c.in_ok-push_code.ensures

pub constraints-smaller : goal.constraints-smaller
constraints-smaller c = shorter c.constraints.left.now c.in-Some.rest.now c.in-Some.constraint.now c.in-Some.ensures.cases.0

pub returns : goal.returns
returns c = λ below filled.
    let set = c.args.by.now.set in
    codes-end set.names.now set.parts.now set.identities.now (seen c.args.own.now) below c.constraints.left.now c.constraints.codes (c.constraints.invariant below filled) (nothing-left c.constraints.left.now c.in_default.ensures.cases)
