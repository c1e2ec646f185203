use Rattle.std.proofs.Common.{◌≡◌, ◌+◌, ◌∙◌, length, sym, subst, arith}
use Rattle.redefine_originals.specs.declared.document_versions.DocumentVersions.{DocumentVersions}
use Rattle.redefine_originals.specs.Versions.{shapes_at}
use Rattle.redefine_originals.specs.inside.DocumentVersions.{HasVersions}
use Rattle.redefine_originals.proofs.OrderLaws.{numbered-more, shapes-read}
use Rattle.redefine_originals.proofs.index.all_versions.Goals as goal

pub loop-document-preserved : goal.loop-document-preserved
loop-document-preserved c =
    let available = c.args.available.now in
    let number = c.loop-document.number in
    let counted = c.loop-document.invariant.counted in
    let len = c.loop-document.invariant.len in
    let last : number ≡ length c.loop-document.versions.items + 1 = omega arith in
    let shapes : c.as_slice.result.now ≡ shapes_at available number =
    c.as_slice.ensures ∙ sym (shapes-read available c.document-item.result c.loop-document.document-index number c.loop-document-test.true c.document-item.is counted) in
    record {
      counted = omega arith;
      len = omega (arith, c.in_ok-push.ensures.len);
      each = numbered-more (λ n (v : DocumentVersions). HasVersions n (shapes_at available n) v) c.loop-document.versions.items c.push.new.self.items c.in_ok-own.own number
          c.loop-document.invariant.each last (subst (λ s. HasVersions number s c.in_ok-own.own) shapes c.in_ok-own.ensures) c.in_ok-push.ensures.items;
    }
