use Rattle.std.proofs.Common.{ℕ, ◌<◌, ◌+◌, true, set, length, take, take_all, sym, subst, arith}
use Rattle.std.specs.Prelude.{Contains}
use Rattle.std.proofs.lemmas.List.Elements.{All-get_or}
use Rattle.schema_models.specs.inside.Marks.{IsMarkedMore}
use Rattle.schema_models.proofs.MarkLaws.{none-more, list-more}
use Rattle.schema_models.proofs.standing.mark.Goals as goal

pub loop-id-init : goal.loop-id-init
loop-id-init c = none-more (Contains (take 0 c.args.ids.now)) c.args.marks.now (λ k h. absurd (omega (arith, h.1)))

pub loop-id-preserved : goal.loop-id-preserved
loop-id-preserved c =
    let there : c.id-item.result < length c.loop-id.marks =
    let a = All-get_or (λ (x : ℕ). x < length c.args.marks.now) c.args.ids.now c.loop-id.id-index c.id-item.result c.loop-id-test.true c.requires.there in
    let b = c.loop-id.invariant.count in
    let e = c.id-item.is in
    subst (λ (x : ℕ). x < length c.loop-id.marks) (sym e) (omega (arith, a, b)) in
    subst (λ (x : ℕ). IsMarkedMore (Contains (take (c.loop-id.id-index + 1) c.args.ids.now)) c.args.marks.now (set c.loop-id.marks x true)) (sym c.number.ensures)
    (list-more c.args.ids.now c.loop-id.id-index c.id-item.result c.args.marks.now c.loop-id.marks c.loop-id-test.true c.id-item.is c.loop-id.invariant there)

pub returns : goal.returns
returns c = subst (λ xs. IsMarkedMore (Contains xs) c.args.marks.now c.loop-id.marks) (take_all c.loop-id.id-index c.args.ids.now c.loop-id-test.false) c.loop-id.invariant
