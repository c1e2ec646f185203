use Rattle.std.proofs.Common.{◌≡◌, sym, ◌∙◌, subst}
use Rattle.compiled_schema.specs.Usable.{set_of}
use Rattle.doc_changes.specs.Readers.{scope_at}
use Rattle.kept_state.specs.from_kept_records.Fit.{head_at}
use Rattle.kept_state.specs.Kept.{CanGovern}
use Rattle.kept_judging.proofs.Heads.{texts-named}
use Rattle.kept_judging.proofs.Reading.{untyped-read, given-can}
use Rattle.kept_judging.proofs.governing.pair_below.Goals as goal

pub untyped_name-requires : goal.untyped_name-requires
untyped_name-requires c = texts-named c.args.set.now.names c.args.doc.now c.requires.stands.0 c.requires.stands.1 c.args.child.0

pub returns-in-Some-clause-pair : goal.returns-in-Some-clause-pair
returns-in-Some-clause-pair c =
    let v = c.view_of in
    c.govern_untyped_child-pair.ensures.pair (scope_at c.args.doc.now c.args.child.0)
    ∙ untyped-read c.args.set.now v.result.names.now v.result.parts.now v.ensures.names v.ensures.parts c.args.doc.now c.args.child.0 c.in-Some.name c.in-Some.ensures.name c.in-Some.ensures.untyped c.args.parent c.args.child.1

pub returns-in-Some-clause-governed : goal.returns-in-Some-clause-governed
returns-in-Some-clause-governed c =
    let set = c.args.set.now in
    subst (CanGovern set.parts) (sym (returns-in-Some-clause-pair c)) (given-can set c.requires.usable (head_at (set_of set) c.args.doc.now c.args.child.0) c.args.parent c.args.child.1)
