use Rattle.std.proofs.Common.{◌≡◌, false, Some, slice_get, ap, ◌∙◌, arith}
use Rattle.type_derivation.proofs.GrowLaws.{contents-same}
use Rattle.type_derivation.proofs.FillLaws.{set-filling, done-here, done-kept, done-only, get-there}
use Rattle.type_derivation.proofs.FilledLaws.{type-is}
use Rattle.type_derivation.proofs.setting.set_content.Goals as goal

pub write_content-requires-clause-none : goal.write_content-requires-clause-none
write_content-requires-clause-none c =
    let new : slice_get c.args.done.now c.args.number ≡ Some false = c.requires.undone in
    ap (λ l. slice_get l c.in-Some.id) (contents-same c.args.parts.now c.content_of.new.parts c.in_ok-content.ensures.added.more)
    ∙ ap (slice_get c.args.parts.now.contents) c.in-Some.ensures.there.0 ∙ c.requires.filling.none c.args.number new

pub returns-clause-filling : goal.returns-clause-filling
returns-clause-filling c =
    let new : slice_get c.args.done.now c.args.number ≡ Some false = c.requires.undone in
    set-filling c.args.parts.now c.content_of.new.parts c.write_content.new.parts c.args.done.now c.args.number c.in-Some.id c.in_ok-content.content c.requires.filling c.requires.there c.in-Some.ensures.there.0 new
    c.requires.base c.in_ok-content.ensures.added c.in_ok-content.ensures.content c.write_content.ensures.set

pub returns-clause-here : goal.returns-clause-here
returns-clause-here c = done-here c.args.done.now c.args.number (omega (arith, c.requires.there, c.requires.filling.len))

pub returns-clause-kept : goal.returns-clause-kept
returns-clause-kept c = λ n is. done-kept c.args.done.now c.args.number n (omega (arith, c.requires.there, c.requires.filling.len)) is

pub returns-clause-only : goal.returns-clause-only
returns-clause-only c = λ n is. done-only c.args.done.now c.args.number n is

pub returns-clause-filled : goal.returns-clause-filled
returns-clause-filled c =
    let p = get-there c.args.parts.now.complexes.parts c.args.number c.requires.there in
    type-is c.args.parts.now c.content_of.new.parts c.write_content.new.parts c.args.number c.in-Some.id c.in_ok-content.content c.in-Some.ensures.there.0 p.0 p.1 c.in_ok-content.ensures.filled c.write_content.ensures.filled
