use Rattle.std.proofs.Common.{◌≡◌, ◌+◌, [], ◌∷◌, take, drop, refl, sym, ap, subst, ◌∙◌}
use Rattle.std.specs.Prelude.{reverse}
use Rattle.xs_names.proofs.GrownLaws.{Grown-trans}
use Rattle.representations.specs.Documents.{shape_table, shapes_table}
use Rattle.representations.specs.Wildcards.{KnowsTarget}
use Rattle.representations.proofs.LastingLaws.{table-more}
use Rattle.set_representations.specs.inside.Building.{IsRead}
use Rattle.std.proofs.lemmas.List.{take_all}
use Rattle.set_representations.proofs.ReadLaws.{left-one, before-one}
use Rattle.set_representations.proofs.SetLaws.{drop-done}
use Rattle.set_representations.proofs.reader.Reader.add_all.Goals as goal

pub loop-shape-preserved : goal.loop-shape-preserved
loop-shape-preserved c =
    let naming = c.args.self.now.reading.naming in
    let was = c.loop-shape.self in
    let t = c.loop-shape.names in
    let u = c.add.new.names in
    let xs = c.args.shapes.now in
    let i = c.loop-shape.shape-index in
    let x = c.shape-item.result in
    let b = c.loop-shape-test.true in
    let at = c.shape-item.is in
    let grown = c.in_ok-add.ensures.grown in
    record {
      target = subst (KnowsTarget u) (sym c.in_ok-add.ensures.reading) (λ later h. c.loop-shape.invariant.target later (Grown-trans t u later grown h));
      table = table-more (shapes_table naming) (shape_table naming) (λ s ss v. refl) xs i x t u _ b at
          (c.in_ok-add.ensures.table ∙ ap (λ r. shape_table r.naming x t) c.loop-shape.invariant.reading) c.loop-shape.invariant.table;
      read = λ base whole imported is.
          let so_far = c.loop-shape.invariant.read base whole imported is in
          subst (λ before. IsRead u base whole imported before (drop (i + 1) xs) c.add.new.self c.add.new.reps c.add.new.scopes) (before-one xs i x b at)
          (c.in_ok-add.ensures.read base whole imported (reverse (take i xs)) (drop (i + 1) xs)
          (subst (λ left. IsRead t base whole imported (reverse (take i xs)) left was c.loop-shape.reps c.loop-shape.scopes) (left-one xs i x b at) so_far));
      reading = c.in_ok-add.ensures.reading ∙ c.loop-shape.invariant.reading;
      grown = Grown-trans _ t u c.loop-shape.invariant.grown grown;
    }

pub returns-clause-read : goal.returns-clause-read
returns-clause-read c = λ base whole imported is.
    let u = c.loop-shape.names in
    let xs = c.args.shapes.now in
    let i = c.loop-shape.shape-index in
    let end = c.loop-shape-test.false in
    let so_far = c.loop-shape.invariant.read base whole imported is in
    subst (λ before. IsRead u base whole imported before [] c.loop-shape.self c.loop-shape.reps c.loop-shape.scopes) (ap reverse (take_all i xs end))
    (subst (λ left. IsRead u base whole imported (reverse (take i xs)) left c.loop-shape.self c.loop-shape.reps c.loop-shape.scopes) (drop-done xs i end) so_far)
