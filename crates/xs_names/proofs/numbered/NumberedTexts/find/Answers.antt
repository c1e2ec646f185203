use Rattle.std.proofs.Common.{◌∙◌, bytes_eq}
use Rattle.std.proofs.lemmas.Iterator.Adapters.{position_from-zero}
use Rattle.xs_names.proofs.numbered.NumberedTexts.find.Goals as goal

pub returns-in-None : goal.returns-in-None
returns-in-None c =
    rw (← c.self.view_is) (c.in-None.ensures.index ∙ position_from-zero (bytes_eq c.args.text.now) c.self.inside.inner)

pub returns-in-Some : goal.returns-in-Some
returns-in-Some c =
    rw (← c.self.view_is) (c.in-Some.ensures.index ∙ position_from-zero (bytes_eq c.args.text.now) c.self.inside.inner)
