use Rattle.std.proofs.Common.{length, refl, ap, ◌∙◌, arith}
use Rattle.std.proofs.lemmas.List.{length-map}
use Rattle.model_lists.proofs.Others.{made-live, same-live}
use Rattle.model_lists.proofs.MemberKeeping.{member-made}
use Rattle.model_lists.proofs.members.build_member.Goals as goal

pub members_of-requires : goal.members_of-requires
members_of-requires g c =
    let s = c.requires.all in
    (s.0, s.1)

pub returns-clause-list : goal.returns-clause-list
returns-clause-list g c =
    member-made c.args.automaton.now c.members_of.result.now c.members_of.ensures c.args.lists.now c.build.new.self c.args.symbols.now c.in_ok-leaves.leaves.items c.in_ok-leaves.ensures _ c.build.result c.build.ensures.ok

pub returns-clause-others : goal.returns-clause-others
returns-clause-others g c =
    made-live c.args.lists.now c.build.new.self _ _ c.in_ok-leaves.leaves.items c.build.result c.build.ensures.fresh c.build.ensures.ok c.build.ensures.err

pub returns-clause-steps : goal.returns-clause-steps
returns-clause-steps g c =
    let many = ap length c.in_ok-leaves.ensures ∙ length-map c.args.symbols.now _ in
    let s = c.build.ensures.steps in
    omega arith

pub returns-in_err-leaves-clause-others : goal.returns-in_err-leaves-clause-others
returns-in_err-leaves-clause-others g c =
    same-live c.args.lists.now c.args.lists.now refl
