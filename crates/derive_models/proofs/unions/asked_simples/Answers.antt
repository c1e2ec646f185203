use Rattle.std.proofs.Common.{◌+◌, sym, ap, ◌∙◌, subst, arith}
use Rattle.component_references.specs.Heights.{IsType}
use Rattle.component_tables.specs.Types.{type_of}
use Rattle.component_tables.proofs.DeclaredLaws.{type-there}
use Rattle.derive_models.specs.inside.Asked.{AreAsked}
use Rattle.derive_models.proofs.UnionLaws.{has-place, asked-more}
use Rattle.derive_models.proofs.unions.asked_simples.Goals as goal

pub ask-requires : goal.ask-requires
ask-requires c =
    let t = c.args.parts.now in
    let is = c.type_of.ensures.of t c.requires.declarations in
    let there = subst (IsType t) (sym is) (type-there t c.requires.ranked c.requires.elements c.in-Some.id) in
    has-place t c.loop-id.asked.items c.loop-id.invariant.1.len c.type_of.result there

pub loop-id-preserved : goal.loop-id-preserved
loop-id-preserved c =
    let t = c.args.parts.now in
    let is = c.type_of.ensures.of t c.requires.declarations in
    let there = subst (IsType t) (sym is) (type-there t c.requires.ranked c.requires.elements c.in-Some.id) in
    let more = asked-more t c.loop-id.number c.loop-id.asked.items c.loop-id.invariant.1 c.type_of.result (is ∙ ap (type_of t) c.in-Some.ensures.there.0) there in
    (omega (arith, c.in-Some.ensures.there.1), subst (AreAsked t (c.loop-id.number + 1)) (sym c.ask.ensures) more)
