use Rattle.std.proofs.Common.{◌≡◌, List, None, Some, Ok, sym, subst}
use Rattle.simple_types.specs.declared.judged.JudgedType.{JudgedType}
use Rattle.simple_types.specs.Judging.{AreContentsJudged}
use Rattle.simple_types.specs.SimpleTypes.{first_of, IsBuilt}
use Rattle.simple_types.proofs.Built.{built_whole, built_fault}
use Rattle.simple_types.proofs.types.SimpleTypes.build.Goals as goal

pub returns-in-Some : goal.returns-in-Some
returns-in-Some c =
    let parts = c.args.parts.now in
    let simples = c.in_ok-simples.simples.items in
    let complexes = c.in_ok-complexes.complexes.items in
    let contents : AreContentsJudged parts simples complexes = subst (λ (table : List JudgedType). AreContentsJudged parts table complexes) c.as_slice.ensures.value c.in_ok-complexes.ensures in
    let first : first_of (first_of None simples) complexes ≡ Some c.in-Some.fault = cc in
    built_fault parts simples complexes c.in_ok-simples.ensures contents c.in-Some.fault first

pub returns-in-None : goal.returns-in-None
returns-in-None c =
    let parts = c.args.parts.now in
    let simples = c.in_ok-simples.simples.items in
    let complexes = c.in_ok-complexes.complexes.items in
    let contents : AreContentsJudged parts simples complexes = subst (λ (table : List JudgedType). AreContentsJudged parts table complexes) c.as_slice.ensures.value c.in_ok-complexes.ensures in
    let first : first_of (first_of None simples) complexes ≡ None = cc in
    let built = built_whole parts simples complexes c.in_ok-simples.ensures contents c.requires.ranked first in
    subst (λ (table : List JudgedType). IsBuilt parts (Ok (record { simples = c.from_vec.result; complexes = table }))) (sym c.from_vec-in-None.ensures)
    (subst (λ (table : List JudgedType). IsBuilt parts (Ok (record { simples = table; complexes = complexes }))) (sym c.from_vec.ensures) built)
