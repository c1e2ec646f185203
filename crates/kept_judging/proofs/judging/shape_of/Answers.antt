use Rattle.std.proofs.Common.{◌∙◌}
use Rattle.kept_judging.proofs.Keeping.{shape-read}
use Rattle.kept_judging.proofs.judging.shape_of.Goals as goal

pub returns : goal.returns
returns c = λ s.
    shape-read s c.args.doc.now c.args.kept.now c.args.node c.args.children.now _ _ _ _ _ _ c.in_ok-name.ensures.name c.in_ok-name.ensures.attributes (c.in_ok-try_clone.ensures ∙ c.requires.text)
    c.in_ok-name.ensures.scope c.in_ok-identity_codes.ensures c.in_ok-ids_at.ensures
