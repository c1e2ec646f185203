use Rattle.std.proofs.Common.{◌<◌, length, All, sym, subst}
use Rattle.assess_records.specs.declared.shape.NamedText.{NamedText}
use Rattle.doc_changes.specs.Readers.{scope_at}
use Rattle.kept_judging.proofs.Heads.{scope-known, texts-named}
use Rattle.kept_judging.proofs.Reading.{known-read}
use Rattle.kept_judging.proofs.governing.pair_again.Goals as goal

pub local_type-xsi-requires : goal.local_type-xsi-requires
local_type-xsi-requires c =
    subst (All (λ (a : NamedText). a.name < length c.args.set.now.names.names)) (sym c.in_ok-head.ensures.attributes)
    (texts-named c.args.set.now.names c.args.doc.now c.requires.stands.0 c.requires.stands.1 c.args.was.node)

pub regovern-requires-clause-scope : goal.regovern-requires-clause-scope
regovern-requires-clause-scope c =
    known-read c.args.set.now c.view_of.result.names.now c.view_of.result.parts.now c.view_of.ensures.names c.view_of.ensures.parts (scope_at c.args.doc.now c.args.was.node) _ c.in_ok-head.ensures.scope
    (scope-known c.args.set.now.names c.args.doc.now c.requires.stands.0 c.requires.stands.1 c.args.was.node)
