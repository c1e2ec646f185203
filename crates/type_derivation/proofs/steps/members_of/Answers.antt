use Rattle.std.proofs.Common.{sym, ap, ◌∙◌}
use Rattle.component_references.specs.Ranked.{named_types}
use Rattle.xs_components.specs.declared.simple.SimpleForm.TheVariants.{Restrict, ListOf, UnionOf}
use Rattle.type_derivation.proofs.MemberLaws.{made-of, goes-lower}
use Rattle.type_derivation.proofs.steps.members_of.Goals as goal

pub up-smaller : goal.up-smaller
up-smaller c =
    let low = goes-lower c.args.parts.now c.requires.ranked c.up.at c.in-Simple.id c.in-Simple.is c.simple.result.now c.simple.ensures.part c.in-Restrict.base (ap named_types c.in-Restrict.is) in
    low.lower

pub up-preserved : goal.up-preserved
up-preserved c =
    let low = goes-lower c.args.parts.now c.requires.ranked c.up.at c.in-Simple.id c.in-Simple.is c.simple.result.now c.simple.ensures.part c.in-Restrict.base (ap named_types c.in-Restrict.is) in
    (low.there, c.up.invariant.1 ∙ made-of c.args.parts.now c.requires.ranked c.up.at c.in-Simple.id c.in-Simple.is c.simple.result.now c.simple.ensures.part (Restrict c.in-Restrict.base c.in-Restrict.step) c.in-Restrict.is)

pub returns-in-ListOf : goal.returns-in-ListOf
returns-in-ListOf c =
    sym (c.up.invariant.1 ∙ made-of c.args.parts.now c.requires.ranked c.up.at c.in-Simple.id c.in-Simple.is c.simple.result.now c.simple.ensures.part (ListOf c.in-ListOf.item) c.in-ListOf.is)

pub returns-in-UnionOf : goal.returns-in-UnionOf
returns-in-UnionOf c =
    c.as_slice.ensures ∙
    sym (c.up.invariant.1 ∙ made-of c.args.parts.now c.requires.ranked c.up.at c.in-Simple.id c.in-Simple.is c.simple.result.now c.simple.ensures.part (UnionOf c.in-UnionOf.members) c.in-UnionOf.is)
