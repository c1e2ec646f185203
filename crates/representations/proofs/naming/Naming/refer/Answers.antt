use Rattle.std.proofs.Common.{rules, ◌≡◌, None, Some}
use Rattle.representations.proofs.LaterLaws.{referred-own, referred-adopted, referred-plain}
use Rattle.representations.proofs.naming.Naming.refer.Goals as goal

pub returns-in-Some-clause-number : goal.returns-in-Some-clause-number
returns-in-Some-clause-number c =
    let is : c.args.name.now.namespace ≡ Some c.in-Some.field-0 = search rules in
    referred-own c.number_name.new.names c.args.self.now c.args.name.now c.number_name.result c.in-Some.field-0 is c.number_name.ensures.number

pub returns-then-self-clause-number : goal.returns-then-self-clause-number
returns-then-self-clause-number c =
    let is : c.args.name.now.namespace ≡ None = search rules in
    referred-adopted c.number_name-then-self.new.names c.args.self.now c.args.name.now c.number_name-then-self.result is c.if-self.true c.number_name-then-self.ensures.number

pub returns-else-self-clause-number : goal.returns-else-self-clause-number
returns-else-self-clause-number c =
    let is : c.args.name.now.namespace ≡ None = search rules in
    referred-plain c.number_name-else-self.new.names c.args.self.now c.args.name.now c.number_name-else-self.result is c.if-self.false c.number_name-else-self.ensures.number
