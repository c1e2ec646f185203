use Rattle.std.proofs.Common.{◌≡◌, ◌++◌, ◌-◌, ◌∙◌, [], ℕ, true, false, refl, ap, arith}
use Rattle.std.specs.Prelude.{reverse}
use Rattle.std.specs.Global.{Vec}
use Rattle.schema_set.specs.Order.{IsNumber}
use Rattle.redefine_originals.specs.Versions.{inclusions}
use Rattle.redefine_originals.specs.inside.Orders.{firsts}
use Rattle.redefine_originals.proofs.FirstsLaws.{work-thin}
use Rattle.redefine_originals.proofs.OrderLaws.{read-number, next-number, mark-read, ordering-again, ordering-further, ordering-ended}
use Rattle.redefine_originals.proofs.VersionLaws.{inclusions-numbers}
use Rattle.redefine_originals.proofs.orders.order_from.Goals as goal

pub overflow_sub-place : goal.overflow_sub-place
overflow_sub-place c =
    let n : IsNumber c.args.sources.now.available.now c.in-Some.document = next-number c.args.sources.now.available.now c.args.start c.in-Some.document c.loop-document.seen.items c.pop.new.self.items c.loop-document.order.items (rw c.in-Some.ensures.items at c.loop-document.invariant) in
    omega (arith, n.0)

pub index-requires : goal.index-requires
index-requires c =
    let n : IsNumber c.args.sources.now.available.now c.in-Some.document = next-number c.args.sources.now.available.now c.args.start c.in-Some.document c.loop-document.seen.items c.pop.new.self.items c.loop-document.order.items (rw c.in-Some.ensures.items at c.loop-document.invariant) in
    omega (arith, n.0, n.1, c.loop-document.invariant.len)

pub loop-document-preserved-then-index : goal.loop-document-preserved-then-index
loop-document-preserved-then-index c =
    ordering-again c.args.sources.now.available.now c.args.start c.in-Some.document c.loop-document.seen.items c.pop.new.self.items c.loop-document.order.items (rw c.in-Some.ensures.items at c.loop-document.invariant)
    (mark-read c.args.sources.now.available.now c.args.start c.in-Some.document c.loop-document.seen.items c.pop.new.self.items c.loop-document.order.items (rw c.in-Some.ensures.items at c.loop-document.invariant) c.index.result.now true c.index.ensures c.if-index.true)

pub index_mut-requires : goal.index_mut-requires
index_mut-requires c =
    let n : IsNumber c.args.sources.now.available.now c.in-Some.document = next-number c.args.sources.now.available.now c.args.start c.in-Some.document c.loop-document.seen.items c.pop.new.self.items c.loop-document.order.items (rw c.in-Some.ensures.items at c.loop-document.invariant) in
    omega (arith, n.0, n.1, c.loop-document.invariant.len)

pub bounds-inclusions-place : goal.bounds-inclusions-place
bounds-inclusions-place c =
    let n : IsNumber c.args.sources.now.available.now c.in-Some.document = next-number c.args.sources.now.available.now c.args.start c.in-Some.document c.loop-document.seen.items c.pop.new.self.items c.loop-document.order.items (rw c.in-Some.ensures.items at c.loop-document.invariant) in
    omega (arith, n.0, n.1, c.requires.inclusions.len)

pub loop-document-smaller : goal.loop-document-smaller
loop-document-smaller c =
    let found : c.as_slice.result.now ≡ firsts [] (inclusions c.args.sources.now.available.now c.in-Some.document) =
    c.as_slice.ensures.value ∙ read-number (λ number (x : Vec ℕ). x.items ≡ firsts [] (inclusions c.args.sources.now.available.now number)) c.args.sources.now.available.now c.args.inclusions.now c.index-inclusions-place.result c.in-Some.document (c.in-Some.document - 1)
    c.requires.inclusions (next-number c.args.sources.now.available.now c.args.start c.in-Some.document c.loop-document.seen.items c.pop.new.self.items c.loop-document.order.items (rw c.in-Some.ensures.items at c.loop-document.invariant)) refl c.index-inclusions-place.is in
    rw c.in-Some.ensures.items
    (work-thin c.args.sources.now.available.now c.in-Some.document c.loop-document.seen.items c.pop.new.self.items c.put_all_before.new.left.items (next-number c.args.sources.now.available.now c.args.start c.in-Some.document c.loop-document.seen.items c.pop.new.self.items c.loop-document.order.items (rw c.in-Some.ensures.items at c.loop-document.invariant))
    c.loop-document.invariant.len (mark-read c.args.sources.now.available.now c.args.start c.in-Some.document c.loop-document.seen.items c.pop.new.self.items c.loop-document.order.items (rw c.in-Some.ensures.items at c.loop-document.invariant) c.index.result.now false c.index.ensures c.if-index.false) (c.in_ok-put_all_before.ensures ∙ ap (λ l. l ++ reverse c.pop.new.self.items) found))

pub loop-document-preserved : goal.loop-document-preserved
loop-document-preserved c =
    let found : c.as_slice.result.now ≡ firsts [] (inclusions c.args.sources.now.available.now c.in-Some.document) =
    c.as_slice.ensures.value ∙ read-number (λ number (x : Vec ℕ). x.items ≡ firsts [] (inclusions c.args.sources.now.available.now number)) c.args.sources.now.available.now c.args.inclusions.now c.index-inclusions-place.result c.in-Some.document (c.in-Some.document - 1)
    c.requires.inclusions (next-number c.args.sources.now.available.now c.args.start c.in-Some.document c.loop-document.seen.items c.pop.new.self.items c.loop-document.order.items (rw c.in-Some.ensures.items at c.loop-document.invariant)) refl c.index-inclusions-place.is in
    ordering-further c.args.sources.now.available.now c.args.start c.in-Some.document c.loop-document.seen.items c.pop.new.self.items c.loop-document.order.items (rw c.in-Some.ensures.items at c.loop-document.invariant)
    c.put_all_before.new.left.items c.push-in-Some.new.self.items (mark-read c.args.sources.now.available.now c.args.start c.in-Some.document c.loop-document.seen.items c.pop.new.self.items c.loop-document.order.items (rw c.in-Some.ensures.items at c.loop-document.invariant) c.index.result.now false c.index.ensures c.if-index.false) (inclusions-numbers c.args.sources.now.available.now c.in-Some.document)
    (c.in_ok-put_all_before.ensures ∙ ap (λ l. l ++ reverse c.pop.new.self.items) found) c.in_ok-push-2.ensures.items

pub returns : goal.returns
returns c =
    ordering-ended c.args.sources.now.available.now c.args.start c.loop-document.seen.items c.loop-document.left.items c.loop-document.order.items
    (omega (arith, c.loop-document.left.ok.0, c.in_default.ensures.cases.0)) c.loop-document.invariant
