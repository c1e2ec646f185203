use Rattle.std.proofs.Common.{sym, ap, subst, ◌∙◌}
use Rattle.xs_components.specs.declared.common.Methods.{Methods}
use Rattle.xs_codes.specs.declared.code.Code.TheVariants.{CosCtExtends1_1, CosCtExtends1_4}
use Rattle.component_tables.specs.ContentTypes.{content_of}
use Rattle.derive_faults.specs.Finals.{finals_of}
use Rattle.derive_faults.specs.TypeFaults.{IsFirstCode}
use Rattle.derive_faults.proofs.FaultLaws.{when-true, when-false, both-first}
use Rattle.derive_faults.specs.Extensions.{IsBaseFinal, IsOtherContent, content_fits}
use Rattle.derive_faults.proofs.extensions.first_code.Goals as goal

pub returns : goal.returns
returns c =
    let t = c.args.parts.now in
    let part = c.args.part.now in
    let final = subst (IsFirstCode (IsBaseFinal t part)) (sym c.when.ensures)
    (when-true (finals_of t part.base).extension c.finals_of-finals.result.extension CosCtExtends1_1 (ap (λ (m : Methods). m.extension) c.finals_of-finals.ensures.finals)) in
    let content = subst (IsFirstCode (IsOtherContent t part)) (sym c.when-2.ensures)
    (when-false (content_fits part.content (content_of t part.base)) c.content_fits.result CosCtExtends1_4
    (c.content_fits.ensures ∙ ap (content_fits part.content) (c.content_of-base.ensures.content t c.requires.contents))) in
    record { first = both-first (IsBaseFinal t part) (IsOtherContent t part) c.when.result c.when-2.result c.earlier.result c.earlier.ensures final content }
