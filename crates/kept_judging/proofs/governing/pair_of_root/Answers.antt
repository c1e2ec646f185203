use Rattle.std.proofs.Common.{◌<◌, length, All, sym, ◌∙◌, subst}
use Rattle.assess_records.specs.declared.shape.NamedText.{NamedText}
use Rattle.compiled_schema.specs.Usable.{set_of}
use Rattle.doc_changes.specs.Readers.{scope_at}
use Rattle.kept_state.specs.from_kept_records.Fit.{head_at}
use Rattle.kept_state.specs.Kept.{CanGovern}
use Rattle.kept_judging.proofs.Heads.{root-element, scope-known, texts-named}
use Rattle.kept_judging.proofs.Reading.{known-read, root-read, root-can}
use Rattle.kept_judging.proofs.governing.pair_of_root.Goals as goal

pub head_of-requires : goal.head_of-requires
head_of-requires c = root-element c.args.set.now.names c.args.doc.now c.requires.stands.0 c.requires.stands.1

pub local_type-xsi-requires : goal.local_type-xsi-requires
local_type-xsi-requires c =
    subst (All (λ (a : NamedText). a.name < length c.args.set.now.names.names)) (sym c.in_ok-head.ensures.attributes)
    (texts-named c.args.set.now.names c.args.doc.now c.requires.stands.0 c.requires.stands.1 1)

pub govern_root-requires-clause-scope : goal.govern_root-requires-clause-scope
govern_root-requires-clause-scope c =
    known-read c.args.set.now c.view_of.result.names.now c.view_of.result.parts.now c.view_of.ensures.names c.view_of.ensures.parts (scope_at c.args.doc.now 1) _ c.in_ok-head.ensures.scope
    (scope-known c.args.set.now.names c.args.doc.now c.requires.stands.0 c.requires.stands.1 1)

pub returns-clause-governed : goal.returns-clause-governed
returns-clause-governed c =
    let set = c.args.set.now in
    let e = c.in_ok-pair.ensures.pair
    ∙ root-read set c.view_of.result.names.now c.view_of.result.parts.now c.view_of.ensures.names c.view_of.ensures.parts c.args.doc.now 1 c.in_ok-head.head c.in_ok-head.ensures.name
    c.in_ok-head.ensures.attributes c.in_ok-head.ensures.scope _ c.local_type-xsi.ensures in
    subst (CanGovern set.parts) (sym e) (root-can set c.requires.usable (head_at (set_of set) c.args.doc.now 1))
