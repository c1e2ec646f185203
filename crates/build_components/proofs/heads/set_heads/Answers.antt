use Rattle.std.proofs.Common.{ℕ, ◌+◌, Option, List, length, drop, ap, ◌∙◌, arith}
use Rattle.xs_components.specs.Changes.{with_head}
use Rattle.xs_components.specs.Tables.{Tables}
use Rattle.xs_components.specs.declared.element.ElementDecl.{ElementDecl}
use Rattle.set_representations.specs.Numbers.{number_at}
use Rattle.set_representations.specs.inside.Changes.{changed_at, changes}
use Rattle.set_representations.proofs.ChangeLaws.{changed_at_length, changes_step}
use Rattle.build_components.specs.Elements as spec
use Rattle.build_components.proofs.heads.set_heads.Goals as goal

pub loop-place-preserved : goal.loop-place-preserved
loop-place-preserved c =
    let numbers = c.args.elements.now in
    let reps = c.args.source.now.reps.now in
    let heads = spec.head_of c.args.source.now numbers in
    let place = c.loop-place.place in
    let old = c.loop-place.parts.elements.parts in
    let long = ap (λ (p : Tables). length p.elements.parts) c.set_head.ensures ∙ changed_at_length with_head old c.number_at.result c.head_of.result in
    let given = ap (λ (id : Option ℕ). changed_at with_head old id c.head_of.result) c.number_at.ensures.number
    ∙ ap (λ (head : Option ℕ). changed_at with_head old (number_at numbers place) head) c.head_of.ensures in
    record {
      there = λ at n is. omega (arith, long, c.loop-place.invariant.there at n is);
      parts = ap (λ (p : Tables). record p { elements = record p.elements { parts = changes with_head heads p.elements.parts (drop (place + 1) numbers) (drop (place + 1) reps) } }) c.set_head.ensures
          ∙ ap (λ (parts : List ElementDecl). record c.loop-place.parts { elements = record c.loop-place.parts.elements { parts = parts } })
          (ap (λ (parts : List ElementDecl). changes with_head heads parts (drop (place + 1) numbers) (drop (place + 1) reps)) given
          ∙ changes_step with_head heads old numbers place reps c.rep-item.result c.loop-place-test.true c.rep-item.is)
          ∙ c.loop-place.invariant.parts;
    }
