use Rattle.std.proofs.Common.{rules, ◌≡◌, Some}
use Rattle.representations.proofs.LaterLaws.{declared-in, declared-out}
use Rattle.representations.proofs.naming.Naming.declare.Goals as goal

pub returns-in_ok-number_name-clause-number : goal.returns-in_ok-number_name-clause-number
returns-in_ok-number_name-clause-number c =
    let is : c.args.local.now ≡ Some c.in-Some.local = search rules in
    declared-in c.number_name.new.names c.args.self.now c.args.in_target c.args.local.now c.in-Some.local c.in_ok-number_name.field-0 is c.if-in_target.true c.in_ok-number_name.ensures.number

pub returns-in_ok-number_name-2-clause-number : goal.returns-in_ok-number_name-2-clause-number
returns-in_ok-number_name-2-clause-number c =
    let is : c.args.local.now ≡ Some c.in-Some.local = search rules in
    declared-out c.number_name-else-in_target.new.names c.args.self.now c.args.in_target c.args.local.now c.in-Some.local c.in_ok-number_name-2.field-0 is c.if-in_target.false c.in_ok-number_name-2.ensures.number
