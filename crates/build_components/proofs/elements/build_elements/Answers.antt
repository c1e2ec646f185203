use Rattle.std.proofs.Common.{ℕ, ◌++◌, Option, List, length, sym, ap, ◌∙◌, arith}
use Rattle.std.specs.List.{flat_map}
use Rattle.std.proofs.lemmas.List.{length-append}
use Rattle.xs_components.specs.Changes.{with_head}
use Rattle.xs_components.specs.Table.{TableOf}
use Rattle.xs_components.specs.Tables.{Tables}
use Rattle.xs_components.specs.declared.element.ElementDecl.{ElementDecl}
use Rattle.set_representations.specs.Numbers.{number_at, with_parts}
use Rattle.set_representations.specs.inside.Changes.{changes}
use Rattle.set_representations.proofs.NumberLaws.{numbers_below}
use Rattle.set_representations.proofs.ChangeLaws.{changes_table}
use Rattle.build_components.specs.Elements as spec
use Rattle.build_components.proofs.HeadLaws.{heads_one}
use Rattle.build_components.proofs.elements.build_elements.Goals as goal

pub set_heads-requires : goal.set_heads-requires
set_heads-requires c =
    let old = c.args.parts.now.elements in
    let reps = c.args.source.now.reps.now in
    let plain = spec.headless c.args.source.now c.args.types.now c.args.constraints.now in
    let numbers = c.as_slice.ensures ∙ c.in_ok-ids.ensures.numbers in
    let long = ap (λ (p : Tables). length p.elements.parts) c.in_ok-ids.ensures.parts in
    record {
      there = λ at n is. omega (arith, long, length-append old.parts (flat_map plain reps), numbers_below plain (length old.parts) reps at n (ap (λ (all : List (Option ℕ)). number_at all at) (sym numbers) ∙ is));
    }

pub returns-clause-parts : goal.returns-clause-parts
returns-clause-parts c =
    let source = c.args.source.now in
    let old = c.args.parts.now in
    let reps = source.reps.now in
    let plain = spec.headless source c.args.types.now c.args.constraints.now in
    let known = spec.element_numbers source c.args.types.now c.args.constraints.now (length old.elements.parts) in
    let numbers = c.as_slice.ensures ∙ c.in_ok-ids.ensures.numbers in
    let ids = c.as_slice.result.now in
    c.set_heads.ensures
    ∙ ap (λ (p : Tables). record p { elements = record p.elements { parts = changes with_head (spec.head_of source ids) p.elements.parts ids reps } }) c.in_ok-ids.ensures.parts
    ∙ ap (λ (all : List (Option ℕ)). record old { elements = record (with_parts old.elements (flat_map plain reps)) { parts = changes with_head (spec.head_of source all) (old.elements.parts ++ flat_map plain reps) all reps } }) numbers
    ∙ ap (λ (table : TableOf ElementDecl). record old { elements = table })
    (changes_table with_head (spec.head_of source known) plain (spec.elements_of source c.args.types.now c.args.constraints.now known) (heads_one source c.args.types.now c.args.constraints.now known) old.elements reps)
