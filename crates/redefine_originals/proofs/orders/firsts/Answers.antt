use Rattle.std.proofs.Common.{◌==◌, ◌||◌, ◌∙◌, get_or, not, ap, sym}
use Rattle.std.proofs.lemmas.List.{get_or_default}
use Rattle.std.specs.Prelude.{nat_eq}
use Rattle.std.specs.HashSet.{contains}
use Rattle.std.proofs.lemmas.List.Folds.{list_any_more}
use Rattle.redefine_originals.proofs.FirstsLaws.{firsts-more}
use Rattle.redefine_originals.proofs.RedefineLaws.{set-now}
use Rattle.redefine_originals.proofs.orders.firsts.Goals as goal

pub loop-document-preserved : goal.loop-document-preserved
loop-document-preserved c =
    let documents = c.args.documents.now in
    let i = c.loop-document.document-index in
    let known = contains nat_eq c.loop-document.noted in
    let x = get_or documents i 0 in
    record {
      noted = λ q.
          c.in_ok-is_new.ensures.updates.0 q ∙ set-now (known q) (x == q) ∙ ap (λ b. b || (x == q)) (c.loop-document.invariant.noted q)
          ∙ sym (list_any_more (λ other. other == q) documents i 0 c.loop-document-test.true);
      found = firsts-more documents i x c.in_ok-is_new.is_new c.loop-document.found.items c.push_if.new.found.items _ c.loop-document-test.true (get_or_default documents i 0 x c.loop-document-test.true)
          (c.in_ok-is_new.ensures.added ∙ ap not (c.loop-document.invariant.noted x)) c.in_ok-push_if.ensures c.loop-document.invariant.found;
    }
