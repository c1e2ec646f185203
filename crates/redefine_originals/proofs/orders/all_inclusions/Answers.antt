use Rattle.std.proofs.Common.{◌≡◌, ◌+◌, ◌∙◌, [], ℕ, List, length, refl, sym, ap, arith}
use Rattle.std.specs.Prelude.{filter_map}
use Rattle.std.specs.Global.{Vec}
use Rattle.std.specs.Option.{option_and_then}
use Rattle.schema_shape.specs.declared.forms.Shape.{Shape}
use Rattle.schema_set.specs.EffectiveSet.{document_at}
use Rattle.redefine_originals.specs.Versions.{included, inclusions}
use Rattle.redefine_originals.specs.inside.Orders.{firsts}
use Rattle.redefine_originals.proofs.OrderLaws.{numbered-more, shapes-read}
use Rattle.redefine_originals.proofs.orders.all_inclusions.Goals as goal

pub loop-document-preserved : goal.loop-document-preserved
loop-document-preserved c =
    let available = c.args.sources.now.available.now in
    let i = c.loop-document.document-index in
    let len = c.loop-document.invariant.len in
    let last : i + 1 ≡ length c.loop-document.inclusions.items + 1 = omega arith in
    let once : c.in_ok-once.once.items ≡ firsts [] (inclusions available (i + 1)) =
    c.in_ok-once.ensures
    ∙ ap (firsts []) (c.as_slice-in-loop-document.ensures.value ∙ (c.in_ok-found.ensures.found
    ∙ ap (λ (shapes : List Shape). filter_map (λ s. option_and_then (document_at available) (included s.form)) shapes)
    (c.as_slice.ensures ∙ sym (shapes-read available c.document-item.result i (i + 1) c.loop-document-test.true c.document-item.is refl)))) in
    record {
      len = omega (arith, c.in_ok-push.ensures.len);
      each = numbered-more (λ number (x : Vec ℕ). x.items ≡ firsts [] (inclusions available number)) c.loop-document.inclusions.items c.push.new.self.items c.in_ok-once.once (i + 1)
          c.loop-document.invariant.each last once c.in_ok-push.ensures.items;
    }
