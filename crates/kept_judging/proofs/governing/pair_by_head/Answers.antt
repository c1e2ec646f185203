use Rattle.std.proofs.Common.{◌<◌, length, All, sym, ◌∙◌, subst}
use Rattle.assess_records.specs.declared.shape.NamedText.{NamedText}
use Rattle.compiled_schema.specs.Usable.{set_of}
use Rattle.doc_changes.specs.Readers.{scope_at}
use Rattle.kept_state.specs.from_kept_records.Fit.{head_at}
use Rattle.kept_state.specs.Kept.{CanGovern}
use Rattle.kept_judging.proofs.Heads.{scope-known, texts-named}
use Rattle.kept_judging.proofs.Reading.{known-read, child-read, given-can}
use Rattle.kept_judging.proofs.governing.pair_by_head.Goals as goal

pub local_type-xsi-requires : goal.local_type-xsi-requires
local_type-xsi-requires c =
    subst (All (λ (a : NamedText). a.name < length c.args.set.now.names.names)) (sym c.in_ok-head.ensures.attributes)
    (texts-named c.args.set.now.names c.args.doc.now c.requires.stands.0 c.requires.stands.1 c.args.child.0)

pub govern_child-requires-clause-scope : goal.govern_child-requires-clause-scope
govern_child-requires-clause-scope c =
    let v = c.view_of-view in
    known-read c.args.set.now v.result.names.now v.result.parts.now v.ensures.names v.ensures.parts (scope_at c.args.doc.now c.args.child.0) _ c.in_ok-head.ensures.scope
    (scope-known c.args.set.now.names c.args.doc.now c.requires.stands.0 c.requires.stands.1 c.args.child.0)

pub returns-clause-governed : goal.returns-clause-governed
returns-clause-governed c =
    let set = c.args.set.now in
    let v = c.view_of-view in
    let e = c.in_ok-pair.ensures.pair
    ∙ child-read set v.result.names.now v.result.parts.now v.ensures.names v.ensures.parts c.args.doc.now c.args.child.0 c.in_ok-head.head c.in_ok-head.ensures.name
    c.in_ok-head.ensures.attributes c.in_ok-head.ensures.scope _ c.local_type-xsi.ensures c.args.parent c.args.child.1 in
    subst (CanGovern set.parts) (sym e) (given-can set c.requires.usable (head_at (set_of set) c.args.doc.now c.args.child.0) c.args.parent c.args.child.1)
