use Rattle.std.proofs.Common.{◌≡◌, ◌+◌, ◌++◌, Some, length, drop, refl, sym, ap, subst, ◌∙◌}
use Rattle.std.specs.Prelude.{slice_get}
use Rattle.std.proofs.lemmas.List.{append-nil}
use Rattle.representations.specs.Behind.{AreBehind}
use Rattle.std.specs.List.{flat_map}
use Rattle.xs_names.specs.Scope.{first_scope}
use Rattle.xs_names.proofs.GrownLaws.{Grown-refl, Grown-trans}
use Rattle.representations.specs.Documents.{document_table}
use Rattle.representations.proofs.LastingLaws.{table-more}
use Rattle.set_representations.specs.Documents.{set_table, shapes_of, document_scopes, representations_of, origins_of, representations, scopes, origins}
use Rattle.set_representations.proofs.ReadLaws.{left-one}
use Rattle.set_representations.proofs.SetLaws.{reps-step, scopes-step, origins-step, first-stays, drop-done}
use Rattle.set_representations.proofs.BehindLaws.{set-behind}
use Rattle.set_representations.proofs.set.represent.Goals as goal

pub loop-document-preserved : goal.loop-document-preserved
loop-document-preserved c =
    let ds = c.args.documents.now in
    let was = c.loop-document.made in
    let new = c.add.new.self in
    let t = c.loop-document.names in
    let u = c.add.new.names in
    let i = c.loop-document.document-index in
    let x = c.document-item.result in
    let b = c.loop-document-test.true in
    let at = c.document-item.is in
    let grown = c.in_ok-add.ensures.grown in
    let left = left-one ds i x b at in
    record {
      begins = subst (λ ss. slice_get ss 0 ≡ Some first_scope) (sym (c.in_ok-add.ensures.scopes u (Grown-refl u)))
          (first-stays was.scopes (document_scopes u x) first_scope c.loop-document.invariant.begins);
      table = table-more (λ ys v. set_table v ys) (λ d v. document_table d.target (shapes_of d) v) (λ d ys v. refl) ds i x t u _ b at
          c.in_ok-add.ensures.table c.loop-document.invariant.table;
      reps = λ later h.
          reps-step later x (drop (i + 1) ds) was.reps new.reps (length was.scopes) was.scopes new.scopes (representations later ds) refl
          (c.in_ok-add.ensures.reps later h) (c.in_ok-add.ensures.scopes later h)
          (subst (λ ys. was.reps ++ representations_of later (length was.reps) (length was.scopes) ys ≡ representations later ds) left
          (c.loop-document.invariant.reps later (Grown-trans t u later grown h)));
      scopes = λ later h.
          scopes-step later x (drop (i + 1) ds) was.scopes new.scopes (scopes later ds) (c.in_ok-add.ensures.scopes later h)
          (subst (λ ys. was.scopes ++ flat_map (document_scopes later) ys ≡ scopes later ds) left
          (c.loop-document.invariant.scopes later (Grown-trans t u later grown h)));
      origins = λ later h.
          origins-step later x (drop (i + 1) ds) was.reps new.reps (length was.scopes) was.origins new.origins (origins later ds)
          (c.in_ok-add.ensures.reps later h) (c.in_ok-add.ensures.origins later h)
          (subst (λ ys. was.origins ++ origins_of later (length was.reps) ys ≡ origins later ds) left
          (c.loop-document.invariant.origins later (Grown-trans t u later grown h)));
      named = c.in_ok-add.ensures.named;
      grown = Grown-trans _ t u c.loop-document.invariant.grown grown;
    }

pub returns-clause-reps : goal.returns-clause-reps
returns-clause-reps c =
    let t = c.loop-document.names in
    let made = c.loop-document.made in
    let ds = c.args.documents.now in
    sym (append-nil made.reps)
    ∙ ap (λ ys. made.reps ++ representations_of t (length made.reps) (length made.scopes) ys) (sym (drop-done ds c.loop-document.document-index c.loop-document-test.false))
    ∙ c.loop-document.invariant.reps t (Grown-refl t)

pub returns-clause-scopes : goal.returns-clause-scopes
returns-clause-scopes c =
    let t = c.loop-document.names in
    let made = c.loop-document.made in
    let ds = c.args.documents.now in
    sym (append-nil made.scopes)
    ∙ ap (λ ys. made.scopes ++ flat_map (document_scopes t) ys) (sym (drop-done ds c.loop-document.document-index c.loop-document-test.false))
    ∙ c.loop-document.invariant.scopes t (Grown-refl t)

pub returns-clause-origins : goal.returns-clause-origins
returns-clause-origins c =
    let t = c.loop-document.names in
    let made = c.loop-document.made in
    let ds = c.args.documents.now in
    sym (append-nil made.origins)
    ∙ ap (λ ys. made.origins ++ origins_of t (length made.reps) ys) (sym (drop-done ds c.loop-document.document-index c.loop-document-test.false))
    ∙ c.loop-document.invariant.origins t (Grown-refl t)

pub returns-clause-behind : goal.returns-clause-behind
returns-clause-behind c = subst AreBehind (sym (returns-clause-reps c)) (set-behind c.loop-document.names c.args.documents.now)
