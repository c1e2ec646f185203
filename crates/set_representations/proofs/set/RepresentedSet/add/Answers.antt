use Rattle.std.proofs.Common.{◌≡◌, ◌+◌, ◌++◌, ◌∷◌, [], length, sym, ap, subst, ◌∙◌}
use Rattle.std.specs.Prelude.{reverse}
use Rattle.xs_names.specs.Names.{NameTable}
use Rattle.xs_names.proofs.GrownLaws.{Grown-trans}
use Rattle.representations.specs.declared.reading.Reading.{Reading}
use Rattle.set_representations.specs.Members.{all_members}
use Rattle.set_representations.specs.Scopes.{scopes_in}
use Rattle.set_representations.specs.Documents.{document_representations, imports_of, shapes_of}
use Rattle.set_representations.specs.inside.Building.{IsRead}
use Rattle.set_representations.proofs.ReadLaws.{named-Grown, start-read, whole-reps, whole-imports}
use Rattle.set_representations.proofs.set.RepresentedSet.add.Goals as goal

pub returns-clause-reps : goal.returns-clause-reps
returns-clause-reps c =
    let d = c.args.document.now in
    let reps = c.args.self.now.reps in
    let scopes = c.args.self.now.scopes in
    let t = c.of.new.names in
    let u = c.add_all.new.names in
    let reader = c.in_ok-reader.reader in
    let same : c.as_slice-shapes.result.now ≡ shapes_of d = c.as_slice-shapes.ensures in
    let whole = λ (later : NameTable). reps ++ document_representations later (length reps) (length scopes) d in
    let imported = λ (later : NameTable). imports_of later (shapes_of d) in
    let start = start-read t d reader reps scopes c.in_ok-reader.ensures.target c.in_ok-reader.ensures.naming c.in_ok-reader.ensures.defaults c.in_ok-reader.ensures.number
    c.in_ok-reader.ensures.opened c.in_ok-reader.ensures.imports
    (c.in_ok-reader.ensures.members ∙ ap (λ n. reverse (all_members n (shapes_of d))) c.len-first.ensures)
    c.requires.begins (named-Grown c.args.names.now t reps c.in_ok-reader.ensures.grown c.requires.named) in
    let end = c.in_ok-add_all.ensures.read scopes whole imported
    (subst (λ ss. IsRead t scopes whole imported [] ss reader reps scopes) (sym same) start) in
    whole-reps u scopes whole imported (reverse c.as_slice-shapes.result.now) c.add_all.new.self c.add_all.new.reps c.add_all.new.scopes end

pub returns-clause-scopes : goal.returns-clause-scopes
returns-clause-scopes c =
    let d = c.args.document.now in
    let reps = c.args.self.now.reps in
    let scopes = c.args.self.now.scopes in
    let t = c.of.new.names in
    let u = c.add_all.new.names in
    let reader = c.in_ok-reader.reader in
    let same : c.as_slice-shapes.result.now ≡ shapes_of d = c.as_slice-shapes.ensures in
    let whole = λ (later : NameTable). reps ++ document_representations later (length reps) (length scopes) d in
    let imported = λ (later : NameTable). imports_of later (shapes_of d) in
    let start = start-read t d reader reps scopes c.in_ok-reader.ensures.target c.in_ok-reader.ensures.naming c.in_ok-reader.ensures.defaults c.in_ok-reader.ensures.number
    c.in_ok-reader.ensures.opened c.in_ok-reader.ensures.imports
    (c.in_ok-reader.ensures.members ∙ ap (λ n. reverse (all_members n (shapes_of d))) c.len-first.ensures)
    c.requires.begins (named-Grown c.args.names.now t reps c.in_ok-reader.ensures.grown c.requires.named) in
    let end = c.in_ok-add_all.ensures.read scopes whole imported
    (subst (λ ss. IsRead t scopes whole imported [] ss reader reps scopes) (sym same) start) in
    λ later h. end.opened.all later h ∙ ap (λ ss. scopes ++ scopes_in later (reverse ss)) same

pub returns-clause-origins : goal.returns-clause-origins
returns-clause-origins c =
    let d = c.args.document.now in
    let reps = c.args.self.now.reps in
    let scopes = c.args.self.now.scopes in
    let t = c.of.new.names in
    let u = c.add_all.new.names in
    let reader = c.in_ok-reader.reader in
    let same : c.as_slice-shapes.result.now ≡ shapes_of d = c.as_slice-shapes.ensures in
    let whole = λ (later : NameTable). reps ++ document_representations later (length reps) (length scopes) d in
    let imported = λ (later : NameTable). imports_of later (shapes_of d) in
    let start = start-read t d reader reps scopes c.in_ok-reader.ensures.target c.in_ok-reader.ensures.naming c.in_ok-reader.ensures.defaults c.in_ok-reader.ensures.number
    c.in_ok-reader.ensures.opened c.in_ok-reader.ensures.imports
    (c.in_ok-reader.ensures.members ∙ ap (λ n. reverse (all_members n (shapes_of d))) c.len-first.ensures)
    c.requires.begins (named-Grown c.args.names.now t reps c.in_ok-reader.ensures.grown c.requires.named) in
    let end = c.in_ok-add_all.ensures.read scopes whole imported
    (subst (λ ss. IsRead t scopes whole imported [] ss reader reps scopes) (sym same) start) in
    λ later h.
    let target = ap (λ (r : Reading). r.target) c.in_ok-add_all.ensures.reading
    ∙ c.in_ok-reader.ensures.space later (Grown-trans t u later c.in_ok-add_all.ensures.grown h) in
    let imports = whole-imports u scopes whole imported (reverse c.as_slice-shapes.result.now) c.add_all.new.self c.add_all.new.reps c.add_all.new.scopes end later h in
    c.in_ok-push.ensures.ok
    ∙ (λ j. c.args.self.now.origins ++ record { target = target j; imports = imports j; end = c.len-first.ensures j + length (same j) } ∷ [])

pub returns-clause-named : goal.returns-clause-named
returns-clause-named c =
    let d = c.args.document.now in
    let reps = c.args.self.now.reps in
    let scopes = c.args.self.now.scopes in
    let t = c.of.new.names in
    let u = c.add_all.new.names in
    let reader = c.in_ok-reader.reader in
    let same : c.as_slice-shapes.result.now ≡ shapes_of d = c.as_slice-shapes.ensures in
    let whole = λ (later : NameTable). reps ++ document_representations later (length reps) (length scopes) d in
    let imported = λ (later : NameTable). imports_of later (shapes_of d) in
    let start = start-read t d reader reps scopes c.in_ok-reader.ensures.target c.in_ok-reader.ensures.naming c.in_ok-reader.ensures.defaults c.in_ok-reader.ensures.number
    c.in_ok-reader.ensures.opened c.in_ok-reader.ensures.imports
    (c.in_ok-reader.ensures.members ∙ ap (λ n. reverse (all_members n (shapes_of d))) c.len-first.ensures)
    c.requires.begins (named-Grown c.args.names.now t reps c.in_ok-reader.ensures.grown c.requires.named) in
    let end = c.in_ok-add_all.ensures.read scopes whole imported
    (subst (λ ss. IsRead t scopes whole imported [] ss reader reps scopes) (sym same) start) in
    end.named
