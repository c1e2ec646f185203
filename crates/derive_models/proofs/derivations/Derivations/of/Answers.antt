use Rattle.std.proofs.Common.{Bool, List, length, refl, subst}
use Rattle.component_tables.specs.Types.{type_of}
use Rattle.component_tables.proofs.DeclaredLaws.{type-there}
use Rattle.elem_governing.proofs.DerivedLaws.{derives-told}
use Rattle.derive_models.specs.Derivation.{excluded}
use Rattle.derive_models.specs.inside.Asked.{AreLooked}
use Rattle.derive_models.proofs.UnionLaws.{unions-are, asked-found}
use Rattle.derive_models.proofs.derivations.Derivations.of.Goals as goal

pub returns-clause-known : goal.returns-clause-known
returns-clause-known c =
    let t = c.args.parts.now in
    let unions = c.in_ok-unions.unions.items in
    let looked = subst (λ (asked : List Bool). AreLooked t asked (length t.simples.parts) unions) c.deref.ensures.value c.in_ok-unions.ensures in
    record { ranked = c.requires.ranked; simple = c.requires.simple; unions = unions-are t c.in_ok-asked.asked.items unions looked }

pub returns-clause-types : goal.returns-clause-types
returns-clause-types c = λ element low.
    let t = c.args.parts.now in
    let unions = c.in_ok-unions.unions.items in
    let looked = subst (λ (asked : List Bool). AreLooked t asked (length t.simples.parts) unions) c.deref.ensures.value c.in_ok-unions.ensures in
    let there = type-there t c.requires.ranked c.requires.elements element in
    record { there = there; found = asked-found t c.in_ok-asked.asked.items unions looked c.in_ok-asked.ensures.asked element low (type_of t element) refl there }

pub returns-clause-derivation : goal.returns-clause-derivation
returns-clause-derivation c = λ sub base s b. derives-told c.args.parts.now excluded sub base c.requires.ranked s b
