use Rattle.std.proofs.Common.{rules, ◌≡◌}
use Rattle.representations.proofs.LaterLaws.{number-later}
use Rattle.representations.proofs.naming.number_name.Goals as goal

pub returns-clause-number : goal.returns-clause-number
returns-clause-number c =
    let spelled : c.as_str.result.now ≡ c.args.local.now = search rules in
    number-later c.namespace_id.new.self c.intern.new.self c.args.space.now c.space_text.result.now c.as_str.result.now c.args.local.now c.in_ok-ns.ns c.in_ok-name.name
    c.space_text.ensures spelled c.in_ok-ns.ensures.number c.in_ok-name.ensures.grown c.in_ok-name.ensures.number
