use Rattle.std.proofs.Common.{◌⊎◌, sym, ap, subst}
use Rattle.std.proofs.lemmas.Option.{slice_get_within}
use Rattle.xs_components.specs.declared.common.Methods.{Methods}
use Rattle.xs_codes.specs.declared.code.Code.TheVariants.{DerivationOkRestriction1}
use Rattle.derive_faults.specs.Finals.{finals_of}
use Rattle.derive_faults.specs.TypeFaults.{IsFirstCode}
use Rattle.derive_faults.proofs.FaultLaws.{when-true, both-first}
use Rattle.derive_restriction.specs.Contents.{BreaksContent}
use Rattle.derive_restriction.specs.Restrictions.{IsBaseFinal, BreaksTables}
use Rattle.derive_restriction.proofs.restrictions.first_code.Goals as goal

pub finals_of-finals-requires : goal.finals_of-finals-requires
finals_of-finals-requires c = record { there = (c.requires.known.given.ranked.complexes c.args.id c.args.part.now c.requires.part).there }

pub attributes_code-requires-clause-there : goal.attributes_code-requires-clause-there
attributes_code-requires-clause-there c = slice_get_within c.args.set.now.parts.now.complexes.parts c.args.id c.args.part.now c.requires.part

pub attributes_code-requires-clause-base : goal.attributes_code-requires-clause-base
attributes_code-requires-clause-base c = (c.requires.known.given.ranked.complexes c.args.id c.args.part.now c.requires.part).there

pub content_code-requires-clause-base : goal.content_code-requires-clause-base
content_code-requires-clause-base c = (c.requires.known.given.ranked.complexes c.args.id c.args.part.now c.requires.part).there

pub content_code-requires-clause-own : goal.content_code-requires-clause-own
content_code-requires-clause-own c = λ own step e. c.requires.known.given.own c.args.id c.args.part.now own step c.requires.part e

pub returns : goal.returns
returns c =
    let t = c.args.set.now.parts.now in
    let names = c.args.set.now.names.now in
    let part = c.args.part.now in
    let final = subst (IsFirstCode (IsBaseFinal t names c.args.id part)) (sym c.when.ensures)
    (when-true (finals_of t part.base).restriction c.finals_of-finals.result.restriction DerivationOkRestriction1 (ap (λ (m : Methods). m.restriction) c.finals_of-finals.ensures.finals)) in
    record {
      first = both-first (IsBaseFinal t names c.args.id part) (λ code. BreaksTables t names c.args.id part.base code ⊎ BreaksContent t part code) c.when.result c.earlier.result c.earlier-2.result c.earlier-2.ensures final
          (both-first (BreaksTables t names c.args.id part.base) (BreaksContent t part) c.in_ok-attributes.attributes c.in_ok-content.content c.earlier.result c.earlier.ensures c.in_ok-attributes.ensures.first c.in_ok-content.ensures.first);
      same = c.attributes_code.ensures.same;
    }
