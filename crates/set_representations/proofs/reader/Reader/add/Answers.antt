use Rattle.std.proofs.Common.{◌≡◌, ◌+◌, ◌++◌, ◌∷◌, [], length, reverse, sym, ap, subst, ◌∙◌}
use Rattle.xs_names.specs.Names.{Grown}
use Rattle.xs_names.proofs.GrownLaws.{Grown-trans}
use Rattle.representations.specs.Lasting.{IsLasting}
use Rattle.set_representations.specs.Members.{all_members, places_of}
use Rattle.set_representations.specs.Documents.{import_of}
use Rattle.set_representations.specs.declared.reader.Reader.{Reader}
use Rattle.set_representations.specs.inside.Building.{IsOpened, IsRead}
use Rattle.set_representations.proofs.OpenLaws.{opened-Grown}
use Rattle.set_representations.proofs.ReadLaws.{read-step, next-members}
use Rattle.set_representations.proofs.reader.Reader.add.Goals as goal

pub form-requires : goal.form-requires
form-requires c = λ later g. c.requires later (Grown-trans c.args.names.now c.open_scope.new.names later c.in_ok-scope.ensures.grown g)

pub returns-clause-read : goal.returns-clause-read
returns-clause-read c = λ base whole imported before left is.
    let old = c.args.self.now in
    let new = c.next_members-members.new.self in
    let shape = c.args.shape.now in
    let reps = c.args.reps.now in
    let u = c.form.new.names in
    let grown : Grown c.args.names.now u = Grown-trans c.args.names.now c.open_scope.new.names u c.in_ok-scope.ensures.grown c.in_ok-form.ensures.grown in
    let one = c.in_ok-form.ensures.same in
    let two = c.next_members-members.ensures.same in
    let reading : new.reading ≡ old.reading = ap (λ (r : Reader). r.reading) two ∙ ap (λ (r : Reader). r.reading) one in
    let number : new.number ≡ old.number = ap (λ (r : Reader). r.number) two ∙ ap (λ (r : Reader). r.number) one in
    let stack : c.form.new.self.members ≡ reverse (all_members (length reps + 1) left) ++ places_of (length reps + 1) left shape.members ∷ [] =
    ap (λ (r : Reader). r.members) one ∙ is.members ∙ next-members (length reps) shape left in
    let taken = c.next_members-members.ensures.members (places_of (length reps + 1) left shape.members) (reverse (all_members (length reps + 1) left)) stack in
    let opened : new.opened ≡ c.open_scope.new.opened = ap (λ (r : Reader). r.opened) two ∙ ap (λ (r : Reader). r.opened) one in
    let imports : new.imports ≡ c.form.new.self.imports = ap (λ (r : Reader). r.imports) two in
    let scope = c.in_ok-scope.ensures.place base before is.opened in
    subst (λ rs. IsRead u base whole imported (shape ∷ before) left new rs c.open_scope.new.scopes) (sym c.in_ok-push.ensures.ok)
    (read-step c.args.names.now u base whole imported before left shape old new reps _ c.args.scopes.now c.open_scope.new.scopes is grown
    (subst (λ o. IsOpened u base (shape ∷ before) o c.open_scope.new.scopes) (sym opened)
    (opened-Grown c.open_scope.new.names u base (shape ∷ before) c.open_scope.new.opened c.open_scope.new.scopes c.in_ok-form.ensures.grown
    (c.in_ok-scope.ensures.opened base before is.opened)))
    reading number taken.1
    (subst (IsLasting u (λ l. old.imports ++ import_of l shape.form)) (sym imports) c.in_ok-form.ensures.imports)
    (λ later h j. record {
      at = record { document = number j; item = shape.item };
      scope = scope j;
      min = (c.occurs_in-occurs.ensures.occurs j).min;
      max = (c.occurs_in-occurs.ensures.occurs j).max;
      members = taken.0 j;
      form = c.in_ok-form.ensures.form later h j;
    })
    c.in_ok-form.ensures.named)
